use Rattle.cvr_facts.proofs.Columns.{sums_of_are_below}
use Rattle.cvr_facts.proofs.law.sums_stay_below.Goals as goal

pub returns : goal.returns
returns c = sums_of_are_below
