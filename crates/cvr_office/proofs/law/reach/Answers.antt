use Rattle.cvr_office.proofs.Ways.{reach}
use Rattle.cvr_office.proofs.law.reach.Goals as goal

pub returns : goal.returns
returns c = reach
