use Rattle.std.proofs.Common.{refl}
use Rattle.std.specs.Fmt.{digits}
use Rattle.serde_json.proofs.OnLiterals.{serde_json_on_literals}
use Rattle.jiff.proofs.OnLiterals.{jiff_on_literals}
use Rattle.cdf_check.proofs.examples.named_objects.Goals as goal

pub returns : goal.returns
unfolding serde_json_on_literals jiff_on_literals digits
returns c = record {
  generating_device = refl;
  creating_device = refl;
  scope = refl;
  unit = refl;
  party_of_candidate = refl;
  party_of_selection = refl;
  party_of_record = refl;
  candidate = refl;
}
