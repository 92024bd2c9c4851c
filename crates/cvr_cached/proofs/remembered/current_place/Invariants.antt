use Rattle.std.proofs.Common.{◌≡◌, ◌≤◌, length, drop}
use Rattle.cvr_cached.specs.Contents.{current_at, current_in}
use Rattle.cvr_cached.proofs.remembered.current_place.Given as goal

abbrev pub invariant-loop-place : goal.invariant-loop-place
invariant-loop-place l = record {
  within : l.place ≤ length l.facts;
  greatest : current_at l.facts l.greatest ≡ current_in (drop l.place l.facts);
}

abbrev pub decreases-loop-place : goal.decreases-loop-place
decreases-loop-place l = l.place
