use Rattle.std.proofs.Common.{◌≡◌, take, map}
use Rattle.std.specs.Prelude.{codes}
use Rattle.cdf_node.specs.View.{view}
use Rattle.cdf_parts.specs.Parts.{ids_at}
use Rattle.cdf_parts.proofs.contests.selections_in.Given as goal

abbrev pub invariant-loop-item : goal.invariant-loop-item
invariant-loop-item l = l.each.items
    ≡ map (ids_at (codes "ContestSelection")) (map view (take l.item-index l.items))
