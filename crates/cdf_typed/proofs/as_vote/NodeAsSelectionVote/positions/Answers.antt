use Rattle.std.proofs.Common.{map, sym, ap, ◌∙◌}
use Rattle.std.proofs.lemmas.Simd.{map-map}
use Rattle.cdf_node.specs.View.{view}
use Rattle.cdf_typed.specs.Typed.{position_of}
use Rattle.cdf_typed.proofs.as_vote.NodeAsSelectionVote.positions.Goals as goal

pub returns : goal.returns
returns c ids =
    sym (map-map position_of view c.items_at.result.now) ∙ ap (map position_of) c.items_at.ensures
