use Rattle.cvr_office.proofs.ColumnTotals.{columns_add_up, ballots_add_up}
use Rattle.cvr_office.proofs.law.columns.Goals as goal

pub returns : goal.returns
returns c = record { columns = columns_add_up; records = ballots_add_up }
