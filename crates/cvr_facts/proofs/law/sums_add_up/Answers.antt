use Rattle.cvr_facts.proofs.AddingUp.{votes_add_up}
use Rattle.cvr_facts.proofs.Bounds.{AreInRange-from_snapshot}
use Rattle.cvr_facts.proofs.ByPlace.{each_once, in_order}
use Rattle.cvr_facts.proofs.law.sums_add_up.Goals as goal

pub returns : goal.returns
returns c = record {
  votes = votes_add_up;
  ranges = AreInRange-from_snapshot;
  once = each_once;
  order = in_order;
}
