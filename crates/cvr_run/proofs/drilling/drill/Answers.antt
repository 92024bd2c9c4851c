-- The `offices` are new and of one definition, and `events` are those of the steps: so the log
-- follows from `outcomes`; contents and `refusals` too, if none was refused since memory ran out.
use Rattle.std.proofs.Common.{◌≡◌, ◌++◌, ◌∙◌, false, take, drop, length, map, sym, ap, subst, arith}
use Rattle.std.proofs.Common.{rules}
use Rattle.std.specs.Prelude.{replicate}
use Rattle.std.specs.List.{list_any}
use Rattle.std.proofs.lemmas.List.{length-map, length-replicate, take_at}
use Rattle.cvr_office.specs.Reach.{content, history}
use Rattle.cvr_office.specs.Outcomes.{AreOutcomes}
use Rattle.cvr_words.specs.declared.request.Step.{Step}
use Rattle.cvr_run.specs.Drill.{event_of, events_of, new_offices, step_dues}
use Rattle.cvr_run.specs.Outcome.{files_of}
use Rattle.cvr_run.specs.Refusals.{is_refusal, is_want, AreDue}
use Rattle.cvr_run.specs.Logged.{drill_dues, LogsFirst}
use Rattle.cvr_run.proofs.Happenings.{keeps_due, uncounted}
use Rattle.cvr_run.proofs.SameOffices.{of_one}
use Rattle.cvr_run.proofs.Steps.{steps_due, drill_refused_is, drilled_is}
use Rattle.cvr_run.proofs.drilling.drill.Goals as goal

pub returns : goal.returns
returns g c =
    let def = c.args.definition.now in
    let n = c.args.count in
    let steps = c.args.steps.now in
    let files = files_of c.args.files.now in
    let rs = c.in_ok-outcomes.outcomes.items in
    let before = c.as_mut_slice.result.now in
    let after = c.play.new.offices in
    let started : before ≡ c.in_ok-offices.offices.items = search rules in
    let held_are : map g.O.Office.held before ≡ new_offices def n =
    ap (map g.O.Office.held) started ∙ c.in_ok-offices.ensures.held in
    let defined_are : map g.O.Office.defined before ≡ replicate n def =
    ap (map g.O.Office.defined) started ∙ c.in_ok-offices.ensures.defined in
    let events_are : c.as_slice.result.now ≡ events_of n steps =
    c.as_slice.ensures.value ∙ c.in_ok-events.ensures in
    let out : AreOutcomes (new_offices def n) (replicate n def) files
    (history (events_of n steps) rs) =
    subst (λ ss. AreOutcomes ss (replicate n def) files (history (events_of n steps) rs)) held_are
    (subst (λ ds. AreOutcomes (map g.O.Office.held before) ds files
    (history (events_of n steps) rs)) defined_are
    (subst (λ xs. AreOutcomes (map g.O.Office.held before) (map g.O.Office.defined before) files
    (history xs rs)) events_are c.in_ok-outcomes.ensures.outcomes)) in
    let count : length rs ≡ length (events_of n steps) =
    c.in_ok-outcomes.ensures.count ∙ ap length events_are in
    let made : length before ≡ n =
    sym (length-map before g.O.Office.held) ∙ (ap length held_are ∙ length-replicate n _) in
    let also : length after ≡ n = sym (length-map after g.O.Office.defined)
    ∙ (ap length c.in_ok-outcomes.ensures.definitions
    ∙ (length-map before g.O.Office.defined ∙ made)) in
    let rest = drop (length after) c.in_ok-offices.offices.items in
    let left : take c.in_ok-offices.offices.len (after ++ rest)
    ≡ after = take_at after rest c.in_ok-offices.offices.len
    (also ∙ (sym made ∙ (ap length started ∙ sym c.in_ok-offices.offices.ok.0))) in
    let is_logged = c.note_refused-refusals.ensures in
    let wants : c.note_refused-refusals.result.file_lacking ≡ false
    → list_any is_want rs ≡ false = λ working.
    ap (list_any is_want) (sym c.as_slice-2.ensures.value)
    ∙ (sym is_logged.file_lacking ∙ working) in
    let all_steps : length rs ≡ length steps =
    count ∙ length-map steps (λ (step : Step). event_of n step.act) in
    record {
      of_one = of_one def n _ (ap (map g.O.Office.defined) left
          ∙ (c.in_ok-outcomes.ensures.definitions ∙ defined_are));
      contents = λ working.
          ap (map g.O.Office.held) left
          ∙ drilled_is def n files steps rs count out (wants working) (map g.O.Office.held after)
          (length-map after g.O.Office.held ∙ also)
          (λ o lt. c.in_ok-outcomes.ensures.content o (omega (arith, lt, made))
          ∙ (λ i. content (held_are i) files (history (events_are i) rs) o));
      any_refusal = λ working.
          is_logged.any_refusal
          ∙ (ap (list_any is_refusal) c.as_slice-2.ensures.value
          ∙ drill_refused_is def n files steps rs count out (wants working));
      log =
          subst (λ k. LogsFirst (drill_dues def n files steps) k c.note_refused-refusals.result
          (g.L.Sink.taken c.args.log.now) (g.L.Sink.taken c.note_refused-refusals.new.log))
          (ap length c.as_slice-2.ensures.value ∙ all_steps)
          (is_logged.log (step_dues def n files steps)
          (subst (AreDue (step_dues def n files steps)) (sym c.as_slice-2.ensures.value)
          (steps_due def n files steps rs count out)));
      happened = λ working facts. keeps_due c.note.new.self (drill_dues def n files steps).dues
          facts rs (steps_due def n files steps rs count out) (wants working)
          c.note.ensures.definition c.note.ensures.outcomes
          (uncounted c.note.new.self.several _ c.note.ensures.several);
      unchanged = tt;
    }
