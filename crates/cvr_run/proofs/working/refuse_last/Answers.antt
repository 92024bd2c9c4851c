-- Once all `paths` are read, with no line in the log, refusing the definition is the run over these
-- files; a path that isn't read comes before that, and its `status` is the answer.
use Rattle.std.proofs.Common.{inl, inr, subst}
use Rattle.cvr_office.specs.Outcomes.{no_frame}
use Rattle.cvr_run.specs.Ends.{Ran}
use Rattle.cvr_run.specs.Given.{AreHad, StopsAmong}
use Rattle.cvr_run.specs.Logged.{LogsSome}
use Rattle.cvr_run.specs.declared.given.Files.TheVariants.{Opened}
use Rattle.cvr_run.proofs.Happenings.{stops_not_whole}
use Rattle.cvr_run.proofs.Had.{stops_behind}
use Rattle.cvr_run.proofs.working.refuse_last.Goals as goal

pub returns-in-Ok-clause-ran : goal.returns-in-Ok-clause-ran
returns-in-Ok-clause-ran g c = λ def out working first.
    let old = g.O.Open.state c.args.opener.now in
    let new = g.O.Open.state c.take_all.new.opener in
    let had = c.in-Ok.ensures.taken no_frame tt in
    inr (
      had.0,
      subst (λ ps. AreHad Opened old new ps had.0) c.as_slice-paths.ensures had.1,
      subst (λ l. Ran (record { request = c.args.request.now; def = def; files = had.0 })
          c.refuse.result (record { out = out; log = g.L.Sink.taken l })
          (record { out = out; log = g.L.Sink.taken c.refuse.new.log })) c.in-Ok.ensures.quiet
          (c.refuse.ensures.ran def had.0 out working first),
    )

pub returns-in-Err-clause-ran : goal.returns-in-Err-clause-ran
returns-in-Err-clause-ran g c = λ def out working first.
    let old = g.O.Open.state c.args.opener.now in
    let new = g.O.Open.state c.take_all.new.opener in
    let b = g.L.Sink.taken c.args.log.now in
    let a = g.L.Sink.taken c.take_all.new.log in
    let some = subst (λ ps. LogsSome (StopsAmong Opened old new ps c.in-Err.status) b a)
    c.as_slice-paths.ensures c.in-Err.ensures.stops in
    inl (tt, (some.0, stops_behind Opened old new _ _ _ some.1, some.2))

pub returns-in-Ok-clause-happened : goal.returns-in-Ok-clause-happened
returns-in-Ok-clause-happened g c def first whole =
    let old = g.O.Open.state c.args.opener.now in
    let new = g.O.Open.state c.take_all.new.opener in
    let had = c.in-Ok.ensures.taken no_frame tt in (
      had.0,
      subst (λ ps. AreHad Opened old new ps had.0) c.as_slice-paths.ensures had.1,
      c.refuse.ensures.happened def had.0 whole first,
    )

pub returns-in-Err-clause-happened : goal.returns-in-Err-clause-happened
returns-in-Err-clause-happened g c def first whole =
    let some = c.in-Err.ensures.stops in
    let old = g.O.Open.state c.args.opener.now in
    let new = g.O.Open.state c.take_all.new.opener in
    absurd (stops_not_whole Opened old new c.as_slice-paths.result.now c.in-Err.status some.0 some.1
    whole)
