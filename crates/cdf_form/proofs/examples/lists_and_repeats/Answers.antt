use Rattle.std.proofs.Common.{refl}
use Rattle.std.specs.Fmt.{digits}
use Rattle.serde_json.proofs.OnLiterals.{serde_json_on_literals}
use Rattle.jiff.proofs.OnLiterals.{jiff_on_literals}
use Rattle.cdf_form.proofs.examples.lists_and_repeats.Goals as goal

pub returns : goal.returns
unfolding serde_json_on_literals jiff_on_literals digits
returns c = record {
  own = refl;
  other = refl;
  repeats = refl;
}
