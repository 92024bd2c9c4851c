-- Up to each `place`, the `file` at each `path` was taken, with its outcome in `outcomes`; the log
-- stays as it was until a file isn't read or memory runs out.
use Rattle.std.proofs.Common.{◌≡◌, ◌+◌, ◌<◌, ◌∙◌, ◌++◌, ◌∷◌, [], length, take, refl, sym, ap}
use Rattle.std.proofs.Common.{subst, arith}
use Rattle.std.proofs.lemmas.List.{get_or_default, take_all, take_more}
use Rattle.cvr_run.specs.Given.{AreHad, StopsAmong}
use Rattle.cvr_run.specs.Log.{memory_line, Logs}
use Rattle.cvr_run.specs.Logged.{LogsSome}
use Rattle.cvr_run.specs.Worked.{unread_line, unread_status}
use Rattle.cvr_run.proofs.Had.{had_more, had_none, stops_lacking, stops_unread}
use Rattle.cvr_run.proofs.Opened.{at_err}
use Rattle.cvr_run.proofs.collecting.take_all.Goals as goal

pub loop-place-init : goal.loop-place-init
loop-place-init g c = record {
  had = (
    [],
    had_none c.args.from (g.O.Open.state c.args.opener.now),
    λ definition none. subst (g.T.Take.took c.args.taker.now definition [] [])
        (sym c.new-outcomes.ensures.items) none,
  );
  quiet = refl;
}

pub loop-place-preserved : goal.loop-place-preserved
loop-place-preserved g c =
    let old = g.O.Open.state c.args.opener.now in
    let between = g.O.Open.state c.loop-place.opener in
    let new = g.O.Open.state c.fill.new.opener in
    let paths = c.args.paths.now in
    let n = c.loop-place.place in
    let was = c.loop-place.invariant in
    let lt : n < length paths = omega arith in
    let path = c.as_str-path.result.now in
    let named = c.as_str-path.ensures
    ∙ (c.index-paths-place.is ∙ get_or_default paths n c.index-paths-place.result [] lt) in
    let more : take (n + 1) paths ≡ take n paths ++ path ∷ [] =
    take_more paths n [] lt ∙ ap (λ p. take n paths ++ p ∷ []) (sym named) in
    let is_logged = c.in_ok-fill.ensures in
    let files = was.had.0 in
    let file = c.at-file.result.now.items in
    record {
      had = (
        files ++ file ∷ [],
        had_more old between new paths n path lt named c.args.from files
            c.fill.new.bytes.items file c.requires was.had.1 is_logged.filled c.at-file.ensures,
        λ definition none.
            subst (λ ps. g.T.Take.took c.take_one.new.taker definition ps (files ++ file ∷ [])
            c.take_one.new.outcomes.items) (sym more)
            (c.in-Ok.ensures definition (take n paths) files (was.had.2 definition none)),
      );
      quiet = is_logged.quiet ∙ was.quiet;
    }

pub returns-in_err-fill-clause-stops : goal.returns-in_err-fill-clause-stops
returns-in_err-fill-clause-stops g c =
    let old = g.O.Open.state c.args.opener.now in
    let between = g.O.Open.state c.loop-place.opener in
    let new = g.O.Open.state c.fill.new.opener in
    let paths = c.args.paths.now in
    let n = c.loop-place.place in
    let was = c.loop-place.invariant in
    let lt : n < length paths = omega arith in
    let path = c.as_str-path.result.now in
    let named = c.as_str-path.ensures
    ∙ (c.index-paths-place.is ∙ get_or_default paths n c.index-paths-place.result [] lt) in
    let is_logged = c.in_err-fill.ensures in
    let cause = c.in_err-fill.field-0.0 in
    let b = g.L.Sink.taken c.args.log.now in
    let a = g.L.Sink.taken c.fill.new.log in
    at_err c.from_residual.result (λ s. s ≡ unread_status cause)
    (λ s. LogsSome (StopsAmong c.args.from old new paths s) b a) c.from_residual.ensures.1
    (λ s is. (
      unread_line path cause,
      stops_unread old between new paths n path lt named c.args.from was.had.0 cause s was.had.1
          is_logged.opened is_logged.device is_logged.absent is_logged.opens is,
      subst (λ l. Logs (g.L.Sink.taken l) a (unread_line path cause)) was.quiet is_logged.is_logged,
    ))

pub returns-in-Err-clause-stops : goal.returns-in-Err-clause-stops
returns-in-Err-clause-stops g c =
    let old = g.O.Open.state c.args.opener.now in
    let between = g.O.Open.state c.loop-place.opener in
    let new = g.O.Open.state c.fill.new.opener in
    let paths = c.args.paths.now in
    let n = c.loop-place.place in
    let was = c.loop-place.invariant in
    let lt : n < length paths = omega arith in
    let path = c.as_str-path.result.now in
    let named = c.as_str-path.ensures
    ∙ (c.index-paths-place.is ∙ get_or_default paths n c.index-paths-place.result [] lt) in
    let is_logged = c.in_ok-fill.ensures in
    let a = g.L.Sink.taken c.end_in_memory.new.log in (
      memory_line,
      stops_lacking old between new paths n path lt named c.args.from was.had.0
          c.fill.new.bytes.items c.at-file.result.now.items _ was.had.1 is_logged.filled
          c.end_in_memory.ensures.status,
      subst (λ l. Logs (g.L.Sink.taken l) a memory_line) (is_logged.quiet ∙ was.quiet)
          c.end_in_memory.ensures.log,
    )

pub returns-clause-taken : goal.returns-clause-taken
returns-clause-taken g c = λ definition none.
    let old = g.O.Open.state c.args.opener.now in
    let new = g.O.Open.state c.loop-place.opener in
    let paths = c.args.paths.now in
    let n = c.loop-place.place in
    let had = c.loop-place.invariant.had in
    let all : take n paths ≡ paths = take_all n paths (omega arith) in (
      had.0,
      subst (λ ps. AreHad c.args.from old new ps had.0) all had.1,
      subst (λ ps. g.T.Take.took c.loop-place.taker definition ps had.0 c.loop-place.outcomes.items)
          all (had.2 definition none),
    )
