use Rattle.cvr_facts.proofs.Choosing.{current, one_current}
use Rattle.cvr_facts.proofs.law.currents.Goals as goal

pub returns : goal.returns
returns c = record { current = current; one = one_current }
