use Rattle.std.proofs.Common.{◌≡◌, drop}
use Rattle.cdf_node.specs.View.{items_view, members_view}
use Rattle.cdf_form.specs.Form.{first, items_floats, members_floats}
use Rattle.cdf_form.proofs.float.+floats.Given as goal

abbrev pub invariant-find_in_items-loop-place : goal.invariant-find_in_items-loop-place
invariant-find_in_items-loop-place l = first
    (items_floats (items_view (drop l.place l.items)) l.place)
    ≡ first (items_floats (items_view l.items) 0)

abbrev pub invariant-find_in_members-loop-member : goal.invariant-find_in_members-loop-member
invariant-find_in_members-loop-member l = first
    (members_floats (members_view (drop l.member-index l.members)))
    ≡ first (members_floats (members_view l.members))
