use Rattle.std.proofs.Common.{◌≡◌, take}
use Rattle.cdf_parts.proofs.contests.copies.Given as goal

abbrev pub invariant-loop-ids : goal.invariant-loop-ids
invariant-loop-ids l = l.copies.items ≡ take l.ids-index l.each
