use Rattle.std.proofs.Common.{◌≡◌}
use Rattle.cvr_plain.proofs.AddedSums.{AreAdded}
use Rattle.cvr_plain.proofs.tallying.add_sums.Given as goal

abbrev pub invariant-loop-sums : goal.invariant-loop-sums
invariant-loop-sums l = record {
  same : l.totals.contests ≡ l.fn.totals.contests;
  added : AreAdded l.fn.totals.contests l.header.unit l.header.batch l.votes l.fn.totals.rows
      l.sums-index l.totals.rows;
}
