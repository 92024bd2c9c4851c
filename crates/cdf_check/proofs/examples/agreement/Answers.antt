use Rattle.std.proofs.Common.{refl, codes}
use Rattle.std.specs.Fmt.{digits}
use Rattle.serde_json.proofs.OnLiterals.{serde_json_on_literals}
use Rattle.jiff.proofs.OnLiterals.{jiff_on_literals}
use Rattle.cdf_check.specs.Examples.{report, plain, but}
use Rattle.cdf_check.proofs.Ascii.{ascii_refusal}
use Rattle.cdf_check.proofs.examples.agreement.Goals as goal

pub returns : goal.returns
unfolding serde_json_on_literals jiff_on_literals digits
returns c = record {
  election = ascii_refusal (report plain) (report (but (codes "Election.Name") (codes "spring"))) _
      refl refl refl refl;
  unit = ascii_refusal (report plain) (report (but (codes "GpUnit.Name") (codes "lake"))) _ refl
      refl refl refl;
  party = ascii_refusal (report plain) (report (but (codes "Party.Name") (codes "Blues"))) _ refl
      refl refl refl;
  device = ascii_refusal (report plain) (report (but (codes "ReportingDevice.Model") (codes "M2")))
      _ refl refl refl refl;
}
