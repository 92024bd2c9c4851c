use Rattle.std.proofs.Common.{◌≡◌, take, map}
use Rattle.cdf_node.specs.View.{view}
use Rattle.cdf_typed.specs.Typed.{contest_vote_of}
use Rattle.cdf_typed.proofs.votes.read_contests.Given as goal

abbrev pub invariant-loop-value : goal.invariant-loop-value
invariant-loop-value l =
    l.votes.items ≡ map (contest_vote_of l.contests) (map view (take l.value-index l.values))
