use Rattle.cvr_office.proofs.Starting.{start_keeps}
use Rattle.cvr_office.proofs.Keeping.{import_keeps, join_keeps}
use Rattle.cvr_office.proofs.law.holding.Goals as goal

pub returns : goal.returns
returns c = record { start = start_keeps; import = import_keeps; join = join_keeps }
