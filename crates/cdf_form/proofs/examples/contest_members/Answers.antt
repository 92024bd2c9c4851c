use Rattle.std.proofs.Common.{refl}
use Rattle.std.specs.Fmt.{digits}
use Rattle.serde_json.proofs.OnLiterals.{serde_json_on_literals}
use Rattle.jiff.proofs.OnLiterals.{jiff_on_literals}
use Rattle.cdf_form.proofs.examples.contest_members.Goals as goal

pub returns : goal.returns
unfolding serde_json_on_literals jiff_on_literals digits
returns c = record {
  ballot_measure_contest = (refl, refl);
  candidate_contest = (refl, refl);
  contest = (refl, refl);
  party_contest = (refl, refl);
  retention_contest = (refl, refl);
  ballot_measure_selection = (refl, refl);
  candidate_selection = (refl, refl);
  contest_selection = (refl, refl);
  party_selection = (refl, refl);
}
