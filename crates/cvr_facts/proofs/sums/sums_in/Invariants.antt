use Rattle.std.proofs.Common.{◌≡◌, take, map}
use Rattle.cvr_facts.specs.Sums.{sums_of}
use Rattle.cvr_facts.proofs.sums.sums_in.Given as goal

abbrev pub invariant-loop-vote : goal.invariant-loop-vote
invariant-loop-vote g l = l.sums.items ≡ map (sums_of l.contests)
    (map (g.V.AsContestVote.contest_vote l.contests) (take l.vote-index l.votes))
