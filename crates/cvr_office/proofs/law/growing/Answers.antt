use Rattle.cvr_office.proofs.MoreFacts.{growth_adds}
use Rattle.cvr_office.proofs.law.growing.Goals as goal

pub returns : goal.returns
returns c = record { growth = growth_adds }
