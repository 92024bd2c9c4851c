use Rattle.std.proofs.Common.{◌≡◌, take}
use Rattle.cvr_tally.proofs.contest_ids.copy_ids.Given as goal

abbrev pub invariant-loop-contest : goal.invariant-loop-contest
invariant-loop-contest l = l.copies.items ≡ take l.contest-index l.contests
