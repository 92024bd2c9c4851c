use Rattle.cvr_facts.proofs.Choosing.{fact_total, rank, undated, earlier, bytes, equal, bodies}
use Rattle.cvr_facts.proofs.Choosing.{exact}
use Rattle.cvr_facts.proofs.law.choosing.Goals as goal

pub returns : goal.returns
returns c = record {
  total = fact_total;
  rank = rank;
  undated = undated;
  earlier = earlier;
  bytes = bytes;
  equal = equal;
  bodies = bodies;
  exact = exact;
}
