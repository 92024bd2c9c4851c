use Rattle.std.proofs.Common.{ap, ◌∙◌, refl}
use Rattle.std.specs.Fmt.{digits}
use Rattle.std.specs.List.{flat_map}
use Rattle.json.proofs.OnLiterals.{json_on_literals}
use Rattle.cvr_tally.specs.Keys.{keys_total}
use Rattle.cvr_tally.specs.Text.{row_line}
use Rattle.cvr_tally.specs.Examples.{contests, some_rows}
use Rattle.cvr_tally.proofs.Given.{entries-given}
use Rattle.cvr_tally.proofs.RoomExamples.{rooms, has_sums}
use Rattle.cvr_tally.proofs.examples.worked_examples.Goals as goal

pub returns : goal.returns
unfolding json_on_literals digits
returns c = record {
  text = ap (flat_map (row_line contests)) (entries-given keys_total some_rows)
      ∙ refl;
  ballot = (refl, refl);
  room = rooms;
  has = has_sums;
}
