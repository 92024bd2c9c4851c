use Rattle.cvr_office.proofs.OwnFrame.{own_agrees, entry_source}
use Rattle.cvr_office.proofs.SameFrames.{agrees_alike}
use Rattle.cvr_office.proofs.law.own_definitions.Goals as goal

pub returns : goal.returns
returns c = record { own = own_agrees; same = agrees_alike; entries = entry_source }
