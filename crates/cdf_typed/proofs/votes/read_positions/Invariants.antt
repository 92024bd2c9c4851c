use Rattle.std.proofs.Common.{◌≡◌, take, map}
use Rattle.cdf_node.specs.View.{view}
use Rattle.cdf_typed.specs.Typed.{position_of}
use Rattle.cdf_typed.proofs.votes.read_positions.Given as goal

abbrev pub invariant-loop-value : goal.invariant-loop-value
invariant-loop-value l =
    l.positions.items ≡ map (λ v. position_of (view v)) (take l.value-index l.values)
