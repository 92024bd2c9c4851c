use Rattle.std.proofs.Common.{refl}
use Rattle.std.specs.Fmt.{digits}
use Rattle.serde_json.proofs.OnLiterals.{serde_json_on_literals}
use Rattle.jiff.proofs.OnLiterals.{jiff_on_literals}
use Rattle.cdf_form.proofs.examples.report_members.Goals as goal

pub returns : goal.returns
unfolding serde_json_on_literals jiff_on_literals digits
returns c = record {
  cast_vote_record_report = (refl, refl);
  election = (refl, refl);
  candidate = (refl, refl);
  gp_unit = (refl, refl);
  party = (refl, refl);
  reporting_device = (refl, refl);
}
