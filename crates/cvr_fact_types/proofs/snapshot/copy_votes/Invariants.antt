use Rattle.std.proofs.Common.{◌≡◌, take}
use Rattle.cvr_fact_types.proofs.snapshot.copy_votes.Given as goal

abbrev pub invariant-loop-sums : goal.invariant-loop-sums
invariant-loop-sums l = l.copies.items ≡ take l.sums-index l.votes
