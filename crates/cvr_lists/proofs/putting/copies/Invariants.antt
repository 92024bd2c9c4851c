use Rattle.std.proofs.Common.{◌≡◌, take}
use Rattle.cvr_lists.proofs.putting.copies.Given as goal

abbrev pub invariant-loop-fact : goal.invariant-loop-fact
invariant-loop-fact l = l.copies.items ≡ take l.fact-index l.facts
