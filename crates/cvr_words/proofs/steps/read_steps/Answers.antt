use Rattle.std.proofs.Common.{Bor, map, rules, subst, sym}
use Rattle.cvr_words.specs.Step.{Text}
use Rattle.cvr_words.specs.Steps.{IsBadStep, form_of}
use Rattle.cvr_words.proofs.StepLists.{bad_here, nothing_read, one_more, step_here}
use Rattle.cvr_words.proofs.steps.read_steps.Goals as goal

pub loop-place-init : goal.loop-place-init
loop-place-init c = search (rules, nothing_read)

pub returns-in-None-clause-err : goal.returns-in-None-clause-err
returns-in-None-clause-err c =
    let here = bad_here c.args.texts.now c.loop-place.place _ c.loop-place-test.true
    c.loop-place.invariant.0 (sym c.in-None.ensures) in
    subst (IsBadStep (map (λ (t : Bor Text). t.now) c.args.texts.now))
    (sym c.in_ok-fault-in-None.ensures)
    (here, step_here c.args.texts.now c.loop-place.place _ c.loop-place-test.true)

pub loop-place-preserved : goal.loop-place-preserved
loop-place-preserved c =
    one_more c.args.texts.now c.loop-place.place _ (form_of c.in-Some.form) _ _ _ _ (search rules)
    (sym c.in-Some.ensures)
    c.loop-place.invariant c.in_ok-add_step-in-Some.ensures.steps
    c.in_ok-add_step-in-Some.ensures.paths
