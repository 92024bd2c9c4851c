use Rattle.std.proofs.Common.{[], ap, ◌∙◌}
use Rattle.cvr_tally.specs.Rows.{row_from}
use Rattle.cvr_tally.proofs.Columns.{all_zero}
use Rattle.cvr_tally.proofs.row.Row.zeros.Goals as goal

pub returns : goal.returns
returns c = ap (row_from []) (c.in_ok-zeros.ensures ∙ all_zero 0 c.args.selections)
