use Rattle.std.proofs.Common.{◌≡◌}
use Rattle.cvr_facts.specs.Sums.{sums_of}
use Rattle.cvr_facts.proofs.Columns.{seen}
use Rattle.cvr_facts.proofs.sums.sums_of.Given as goal

abbrev pub invariant-loop-selection : goal.invariant-loop-selection
invariant-loop-selection g l =
    record l.sums { votes = l.votes.items }
    ≡ sums_of l.contests (seen (g.V.AsContestVote.contest_vote l.contests l.vote) l.selection-index)
