use Rattle.std.proofs.Common.{◌∙◌, refl}
use Rattle.std.specs.Fmt.{digits}
use Rattle.serde_json.proofs.OnLiterals.{serde_json_on_literals}
use Rattle.jiff.proofs.OnLiterals.{jiff_on_literals}
use Rattle.cvr_office.specs.Examples.{mixed, contests, of_four, rows_of_four}
use Rattle.cvr_office.proofs.GivenFacts.{conflicts-given, tally-given}
use Rattle.cvr_office.proofs.examples.worked_examples.Goals as goal

pub returns : goal.returns
unfolding serde_json_on_literals jiff_on_literals digits
returns c = record {
  conflicts = conflicts-given mixed ∙ refl;
  tally = tally-given contests of_four rows_of_four refl;
}
