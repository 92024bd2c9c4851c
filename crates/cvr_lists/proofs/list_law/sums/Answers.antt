use Rattle.cvr_lists.proofs.CurrentSums.{currents_are_sums, facts_are_sums}
use Rattle.cvr_office.proofs.Lemmas.{sums_there}
use Rattle.cvr_lists.proofs.list_law.sums.Goals as goal

pub returns : goal.returns
returns c = record {
  currents = currents_are_sums;
  snapshots = facts_are_sums;
  at = sums_there;
}
