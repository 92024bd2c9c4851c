use Rattle.std.proofs.Common.{◌≡◌, ◌<◌, ◌≤◌, ◌-◌, ℕ, get_or}
use Rattle.cvr_tally.proofs.row.take_votes.Given as goal

abbrev pub invariant-loop-place : goal.invariant-loop-place
invariant-loop-place l = record {
  done : (k : ℕ) → k < l.place → get_or l.votes k 0
      ≡ get_or l.initial.votes k 0 - get_or l.sums k 0;
  rest : (k : ℕ) → l.place ≤ k → get_or l.votes k 0 ≡ get_or l.initial.votes k 0;
}
