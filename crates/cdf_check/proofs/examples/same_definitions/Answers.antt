use Rattle.std.proofs.Common.{refl, codes}
use Rattle.std.specs.Fmt.{digits}
use Rattle.serde_json.proofs.OnLiterals.{serde_json_on_literals}
use Rattle.jiff.proofs.OnLiterals.{jiff_on_literals}
use Rattle.cdf_check.specs.Examples.{report, plain, but}
use Rattle.cdf_check.proofs.Ascii.{ascii_same, ascii_same_back, apart}
use Rattle.cdf_check.proofs.examples.same_definitions.Goals as goal

pub returns : goal.returns
unfolding serde_json_on_literals jiff_on_literals digits
returns c = record {
  device = ascii_same (report plain) (report (but (codes "ReportingDevice.Model") (codes "M2")))
      refl refl (record { elections = refl; units = refl; parties = refl });
  other_record = ascii_same (report plain) (report (but (codes "CVR.BatchId") (codes "b2"))) refl
      refl (record { elections = refl; units = refl; parties = refl });
  election = λ h. apart _ _ refl refl (ascii_same_back (report plain)
      (report (but (codes "Election.Name") (codes "spring"))) refl refl h).elections;
  unit = λ h. apart _ _ refl refl (ascii_same_back (report plain)
      (report (but (codes "GpUnit.Name") (codes "lake"))) refl refl h).units;
  party = λ h. apart _ _ refl refl (ascii_same_back (report plain)
      (report (but (codes "Party.Name") (codes "Blues"))) refl refl h).parties;
}
