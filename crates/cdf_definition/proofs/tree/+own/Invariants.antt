use Rattle.std.proofs.Common.{◌≡◌, take, map}
use Rattle.cdf_node.specs.View.{view, members_view}
use Rattle.cdf_definition.specs.Tree.{owned, owned_members}
use Rattle.cdf_definition.proofs.tree.+own.Given as goal

abbrev pub invariant-own_items-loop-item : goal.invariant-own_items-loop-item
invariant-own_items-loop-item l = map owned l.trees.items ≡ map view (take l.item-index l.items)

abbrev pub invariant-own_members-loop-member : goal.invariant-own_members-loop-member
invariant-own_members-loop-member l =
    owned_members l.trees.items ≡ members_view (take l.member-index l.members)
