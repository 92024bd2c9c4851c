use Rattle.cvr_cached.proofs.Moving.{rows_of_record, nothing_moves}
use Rattle.cvr_cached.proofs.law.moving.Goals as goal

pub returns : goal.returns
returns c = record { rows = rows_of_record; none = nothing_moves }
