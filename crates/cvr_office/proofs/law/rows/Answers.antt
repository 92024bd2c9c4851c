use Rattle.cvr_office.proofs.RowsOfKeys.{rows_law, ballots_law}
use Rattle.cvr_office.proofs.law.rows.Goals as goal

pub returns : goal.returns
returns c = record { rows = rows_law; ballots = ballots_law }
