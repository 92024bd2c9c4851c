use Rattle.cvr_office.proofs.SeveralBodies.{conflict_iff}
use Rattle.cvr_office.proofs.law.conflicting.Goals as goal

pub returns : goal.returns
returns c = record { conflicts = conflict_iff }
