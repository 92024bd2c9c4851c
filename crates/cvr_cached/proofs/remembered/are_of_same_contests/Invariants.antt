use Rattle.std.proofs.Common.{◌≡◌, take, map}
use Rattle.cvr_cached.proofs.remembered.are_of_same_contests.Given as goal

abbrev pub invariant-loop-place : goal.invariant-loop-place
invariant-loop-place l = take l.place (map (λ v. v.contest) l.sums)
    ≡ take l.place (map (λ v. v.contest) l.others)
