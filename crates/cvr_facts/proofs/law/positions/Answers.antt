use Rattle.cvr_facts.proofs.Positions.{apart, marked, absent}
use Rattle.cvr_facts.proofs.law.positions.Goals as goal

pub returns : goal.returns
returns c = record { apart = apart; marked = marked; absent = absent }
