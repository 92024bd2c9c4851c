use Rattle.std.proofs.Common.{ap, ◌∙◌, refl}
use Rattle.std.specs.Fmt.{digits}
use Rattle.serde_json.proofs.OnLiterals.{serde_json_on_literals}
use Rattle.jiff.proofs.OnLiterals.{jiff_on_literals}
use Rattle.cvr_office.specs.Examples.{contests}
use Rattle.cvr_office.proofs.Lemmas.{conflicts-given, tally-given}
use Rattle.cvr_run.specs.Currents.{conflict_text}
use Rattle.cvr_run.specs.Examples.{of_five, rows_of_five, several_bodies, one_body_each}
use Rattle.cvr_run.specs.Examples.{ten_offices}
use Rattle.cvr_run.proofs.GivenOffices.{offices-given}
use Rattle.cvr_run.proofs.GivenTexts.{currents-given}
use Rattle.cvr_run.proofs.examples.worked_examples.Goals as goal

pub returns : goal.returns
unfolding serde_json_on_literals jiff_on_literals digits
returns c = record {
  currents = currents-given of_five ∙ refl;
  tally = tally-given contests of_five rows_of_five refl;
  conflicts = ap conflict_text (conflicts-given several_bodies) ∙ refl;
  no_conflict = ap conflict_text (conflicts-given one_body_each) ∙ refl;
  drill = offices-given ten_offices ∙ refl;
}
