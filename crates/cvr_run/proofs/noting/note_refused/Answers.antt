-- Up to each `place`, `refusals` and the log are those of the outcomes passed: each `cause` adds a
-- line, `memory` where its path found no room; an accepted outcome adds none.
use Rattle.std.proofs.Common.{◌≡◌, ◌+◌, ◌<◌, ◌∙◌, length, map, Some, None}
use Rattle.std.proofs.Common.{option_map, sym, ap, subst, arith, rules, []}
use Rattle.std.proofs.lemmas.List.{length-map, get_or-map}
use Rattle.cvr_run.specs.Refusals.{cause_in}
use Rattle.cvr_run.specs.Logged.{LogsFirst}
use Rattle.cvr_run.proofs.Outcomes.{due_where_told, none_where_not, refused_here, wanted_here}
use Rattle.cvr_run.proofs.Outcomes.{accepted_here, unwanted_here}
use Rattle.cvr_run.proofs.Logging.{tells_none, tells_noted, tells_accepted}
use Rattle.cvr_run.proofs.noting.note_refused.Goals as goal
use Rattle.cvr_run.proofs.noting.note_refused.Goals.{in-Some, in_default}

pub loop-place-init : goal.loop-place-init
loop-place-init g c = record {
  any_refusal = search rules;
  file_lacking = search rules;
  log = λ dues due. tells_none (record {
    texts = map g.A.Argument.spelled c.args.arguments.now;
    dues = dues;
  }) _ c.none-refusals.result c.none-refusals.ensures.file_lacking
      c.none-refusals.ensures.path_unspelled;
}

pub loop-place-preserved : goal.loop-place-preserved
loop-place-preserved g c =
    let text_of = g.A.Argument.spelled in
    let named = c.args.arguments.now in
    let texts = map text_of named in
    let rs = c.args.outcomes.now in
    let n = c.loop-place.place in
    let o = c.index-outcomes-place.result in
    let lt = c.loop-place-test.true in
    let at = c.index-outcomes-place.is in
    let before = c.loop-place.refusals in
    let was = c.loop-place.invariant in
    let there : n < length named = omega (arith, lt, c.requires) in
    let within : n < length texts = omega (arith, there, length-map named text_of) in
    elim c.match-cause_in.branch [
      | in-Some w ↦
          let cause = w.in-Some.cause.now in
          let is_logged : Some cause ≡ cause_in o =
          sym (ap (option_map (λ c. c.now)) w.in-Some.is) ∙ c.cause_in.ensures in
          let now = w.note.new.self in
          record {
            any_refusal = ap (λ r. r.any_refusal) w.refusals-is
                ∙ refused_here rs n o lt at cause before.any_refusal now.any_refusal is_logged
                was.any_refusal w.note.ensures.any_refusal;
            file_lacking = ap (λ r. r.file_lacking) w.refusals-is
                ∙ wanted_here rs n o lt at cause before.file_lacking now.file_lacking is_logged
                was.file_lacking w.note.ensures.file_lacking;
            log = λ dues due.
                subst (λ r. LogsFirst (record { texts = texts; dues = dues })
                (n + 1) r (g.L.Sink.taken c.args.log.now) (g.L.Sink.taken c.match-cause_in.log))
                (sym w.refusals-is)
                (subst (λ l. LogsFirst (record { texts = texts; dues = dues })
                (n + 1) now (g.L.Sink.taken c.args.log.now) (g.L.Sink.taken l)) (sym w.log-is)
                (tells_noted (record { texts = texts; dues = dues }) _ _ _ n before
                now w.text.result.now cause (was.log dues due) within
                (omega (arith, lt, due.count))
                (w.text.ensures ∙ (ap text_of w.index-arguments-place.is ∙ sym
                (get_or-map text_of named n w.index-arguments-place.result [] there)))
                (due_where_told rs n o lt at dues due cause is_logged) w.note.ensures.file_lacking
                w.note.ensures.is_logged));
          }
      | in_default w ↦
          let is_logged : None ≡ cause_in o =
          sym (ap (option_map (λ c. c.now)) w.in_default.is) ∙ c.cause_in.ensures in
          record {
            any_refusal = ap (λ r. r.any_refusal) w.refusals-is
                ∙ accepted_here rs n o lt at before.any_refusal is_logged was.any_refusal;
            file_lacking = ap (λ r. r.file_lacking) w.refusals-is
                ∙ unwanted_here rs n o lt at before.file_lacking is_logged was.file_lacking;
            log = λ dues due.
                subst (λ r. LogsFirst (record { texts = texts; dues = dues })
                (n + 1) r (g.L.Sink.taken c.args.log.now) (g.L.Sink.taken c.match-cause_in.log))
                (sym w.refusals-is)
                (subst (λ l. LogsFirst (record { texts = texts; dues = dues })
                (n + 1) before (g.L.Sink.taken c.args.log.now) (g.L.Sink.taken l))
                (sym w.log-is)
                (tells_accepted (record { texts = texts; dues = dues }) _ _ n
                before (was.log dues due) within (omega (arith, lt, due.count))
                (none_where_not rs n o lt at dues due is_logged)));
          }
    ]

pub returns-clause-log : goal.returns-clause-log
returns-clause-log g c = λ dues due.
    let all : c.loop-place.place ≡ length c.args.outcomes.now =
    omega (arith, c.loop-place-test.false, c.loop-place.auto.place-end) in
    subst (λ k. LogsFirst (record {
      texts = map g.A.Argument.spelled c.args.arguments.now;
      dues = dues;
    }) k c.loop-place.refusals (g.L.Sink.taken c.args.log.now)
    (g.L.Sink.taken c.loop-place.log)) all
    (c.loop-place.invariant.log dues due)
