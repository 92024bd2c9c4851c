use Rattle.std.proofs.Common.{refl, arith}
use Rattle.std.specs.Fmt.{digits}
use Rattle.serde_json.proofs.OnLiterals.{serde_json_on_literals}
use Rattle.jiff.proofs.OnLiterals.{jiff_on_literals}
use Rattle.cdf_form.proofs.Bounds.{too_few, too_many}
use Rattle.cdf_form.proofs.examples.arrays.Goals as goal

pub returns : goal.returns
unfolding serde_json_on_literals jiff_on_literals digits
returns c = record {
  too_few = refl;
  too_many = refl;
  elections = (λ ds. too_few _ _ _ _ ds, λ ds. too_many _ _ _ _ ds (omega arith));
  snapshots = λ ds. too_few _ _ _ _ ds;
  positions = (λ ds. too_few _ _ _ _ ds, λ ds. too_many _ _ _ _ ds (omega arith));
  contest_selections = λ ds. too_many _ _ _ _ ds (omega arith);
}
