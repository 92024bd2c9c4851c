use Rattle.std.proofs.Common.{◌≡◌, take, map, option_map}
use Rattle.cdf_node.specs.View.{view}
use Rattle.cdf_typed.specs.Typed.{selection_vote_of}
use Rattle.cdf_typed.proofs.votes.read_selections.Given as goal

abbrev pub invariant-loop-value : goal.invariant-loop-value
invariant-loop-value l = l.selections.items
    ≡ map (λ v. selection_vote_of (option_map (λ i. i.now) l.ids) (view v))
    (take l.value-index l.values)
