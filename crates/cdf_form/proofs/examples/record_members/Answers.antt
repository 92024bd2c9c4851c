use Rattle.std.proofs.Common.{refl}
use Rattle.std.specs.Fmt.{digits}
use Rattle.serde_json.proofs.OnLiterals.{serde_json_on_literals}
use Rattle.jiff.proofs.OnLiterals.{jiff_on_literals}
use Rattle.cdf_form.proofs.examples.record_members.Goals as goal

pub returns : goal.returns
unfolding serde_json_on_literals jiff_on_literals digits
returns c = record {
  cvr = (refl, refl);
  cvr_snapshot = (refl, refl);
  annotation = (refl, refl);
  cvr_contest = (refl, refl);
  cvr_contest_selection = (refl, refl);
  selection_position = (refl, refl);
  cvr_write_in = (refl, refl);
}
