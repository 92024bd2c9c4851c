use Rattle.std.proofs.Common.{◌≡◌, take}
use Rattle.cdf_parts.specs.Places.{selections_at}
use Rattle.cvr_tally.proofs.contest_ids.selections_of.Given as goal

abbrev pub invariant-loop-place : goal.invariant-loop-place
invariant-loop-place l = l.ids.items ≡ take l.place (selections_at l.definition.contests l.contest)
