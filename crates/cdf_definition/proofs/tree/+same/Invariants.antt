use Rattle.std.proofs.Common.{◌≡◌, length, drop}
use Rattle.cdf_node.specs.View.{items_view, members_view}
use Rattle.cdf_definition.specs.Tree.{owned_items, owned_members}
use Rattle.cdf_definition.proofs.tree.+same.Given as goal

-- where the rest is the same, all is
abbrev pub invariant-same_items-loop-place : goal.invariant-same_items-loop-place
invariant-same_items-loop-place l =
    owned_items (drop l.place l.trees) ≡ items_view (drop l.place l.items)
    → owned_items l.trees ≡ items_view l.items

abbrev pub invariant-same_members-loop-place : goal.invariant-same_members-loop-place
invariant-same_members-loop-place l =
    owned_members (drop l.place l.trees) ≡ members_view (drop l.place l.members)
    → owned_members l.trees ≡ members_view l.members
