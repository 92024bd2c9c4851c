use Rattle.std.proofs.Common.{◌≡◌, [], ◌+◌, ◌-◌, ◌<◌, ◌++◌, length, get_or, string_bytes, sym, ap}
use Rattle.std.proofs.Common.{◌∙◌, arith, rules}
use Rattle.cdf_form.specs.Path.{step_text}
use Rattle.cdf_form.specs.Found.{step_of}
use Rattle.cdf_form.specs.declared.found.Step.{Step as Kept}
use Rattle.cdf_form.specs.declared.found.Step.TheVariants.{Member}
use Rattle.cdf_form.proofs.Pointers.{path_text-back}
use Rattle.cdf_form.proofs.path.path_text.Goals as goal

pub loop-left-preserved : goal.loop-left-preserved
loop-left-preserved c =
    let ss = c.args.steps.now in
    let i = c.loop-left.left - 1 in
    let d : Kept = Member (record { ref_ptr = (0, 0); now = [] }) in
    let lt : i < length ss = omega arith in
    let back : i + 1 ≡ c.loop-left.left = omega arith in
    let step : string_bytes c.push_step.new.text
    ≡ string_bytes c.loop-left.text ++ step_text (step_of (get_or ss i d)) = search rules in
    record {
      within = omega arith;
      so_far = step ∙ ap (λ t. t ++ step_text (step_of (get_or ss i d)))
          c.loop-left.invariant.so_far ∙ sym (path_text-back ss i c.loop-left.left d lt back);
    }
