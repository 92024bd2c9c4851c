-- `outcomes` are due to all files, and `lines` are those of the accepted ones, unless a file was
-- refused since memory ran out: so `status` ends their check. If one isn't read, the run stops.
use Rattle.std.proofs.Common.{◌≡◌, ◌∙◌, [], inl, inr, length, refl, rules, string_bytes, sym, ap, subst}
use Rattle.std.specs.List.{list_any}
use Rattle.cvr_run.specs.Ends.{RanBeside}
use Rattle.cvr_run.specs.Outcome.{check_lines, content_of_files}
use Rattle.cvr_run.specs.Refusals.{is_want}
use Rattle.cvr_run.specs.Taken.{AreTaken}
use Rattle.cvr_run.specs.Logged.{import_dues}
use Rattle.cvr_words.specs.declared.request.Task.TheVariants.{Check}
use Rattle.cvr_run.proofs.Collected.{as_many, taken_none}
use Rattle.cvr_run.proofs.Had.{stops_behind}
use Rattle.cvr_run.proofs.Happenings.{keeps_due, stops_not_whole, uncounted}
use Rattle.cvr_run.proofs.Known.{not_whole}
use Rattle.cvr_run.proofs.tasks.run_check.Goals as goal

pub end_check-status-requires-clause-named : goal.end_check-status-requires-clause-named
end_check-status-requires-clause-named g c =
    let definition = c.args.definition in
    let empty : string_bytes c.new.result ≡ [] = search rules in
    let had = c.in-Ok.ensures.taken definition (refl, taken_none definition _ empty) in
    as_many definition c.args.paths.now had.0 _ _ had.2.1 ∙ ap length (sym c.as_slice.ensures.value)

pub returns-in-Ok-clause-ran : goal.returns-in-Ok-clause-ran
returns-in-Ok-clause-ran g c =
    let definition = c.args.definition in
    let paths = c.args.paths.now in
    let empty : string_bytes c.new.result ≡ [] = search rules in
    let had = c.in-Ok.ensures.taken definition (refl, taken_none definition _ empty) in
    let text : c.as_str-lines.result.now ≡ string_bytes c.take_all.new.taker.text = search rules in
    let taken = subst (λ d. AreTaken definition paths had.0 c.in-Ok.outcomes.items
    (d ≡ check_lines definition paths had.0)) (sym text) had.2.1 in
    inr (
      had.0,
      had.1,
      subst (λ l. RanBeside definition Check paths had.0 c.end_check-status.result
          (record { out = g.W.Sink.taken c.args.out.now; log = g.L.Sink.taken l })
          (record {
            out = g.W.Sink.taken c.end_check-status.new.out;
            log = g.L.Sink.taken c.end_check-status.new.log;
          })) c.in-Ok.ensures.quiet
          (c.end_check-status.ensures.ran definition had.0
          (subst (λ rs. AreTaken definition paths had.0 rs
          (c.as_str-lines.result.now ≡ check_lines definition paths had.0))
          (sym c.as_slice.ensures.value) taken)),
    )

pub returns-clause-ran : goal.returns-clause-ran
returns-clause-ran g c =
    let some = c.in-Err.ensures.stops in
    inl (refl, (some.0, stops_behind _ _ _ _ _ _ some.1, some.2))

pub returns-in-Ok-clause-happened : goal.returns-in-Ok-clause-happened
returns-in-Ok-clause-happened g c whole =
    let definition = c.args.definition in
    let empty : string_bytes c.new.result ≡ [] = search rules in
    let had = c.in-Ok.ensures.taken definition (refl, taken_none definition _ empty) in
    let working = ap (list_any is_want) (sym c.as_slice.ensures.value)
    ∙ c.end_check-status.ensures.lacking (λ e. not_whole _ (inr e) whole) in (
      had.0,
      had.1,
      keeps_due c.note.new.self (import_dues definition c.args.paths.now had.0).dues
          (content_of_files definition had.0) c.in-Ok.outcomes.items had.2.1.due working
          c.note.ensures.definition c.note.ensures.outcomes
          (uncounted c.note.new.self.several _ c.note.ensures.several),
    )

pub returns-clause-happened : goal.returns-clause-happened
returns-clause-happened g c whole =
    let some = c.in-Err.ensures.stops in
    let old = g.O.Open.state c.args.opener.now in
    let new = g.O.Open.state c.take_all.new.opener in
    absurd (stops_not_whole c.args.from old new c.args.paths.now c.in-Err.status some.0 some.1 whole)
