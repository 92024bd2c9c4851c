use Rattle.std.proofs.Common.{◌≡◌, take}
use Rattle.cvr_run.specs.Happened.{refused_places}
use Rattle.cvr_run.proofs.happened.first_refused.Given as goal

-- the first ten of those so far
abbrev pub invariant-loop-place : goal.invariant-loop-place
invariant-loop-place l =
    l.places.items ≡ take 10 (refused_places 0 (take l.place l.outcomes))
