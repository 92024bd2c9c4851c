use Rattle.std.proofs.Common.{◌≡◌, drop}
use Rattle.cdf_node.specs.View.{items_view, members_view}
use Rattle.serde_json.specs.Written.{items_have_float, members_have_float}
use Rattle.cdf_form.proofs.float.+whole.Given as goal

abbrev pub invariant-items_have_fraction-loop-item : goal.invariant-items_have_fraction-loop-item
invariant-items_have_fraction-loop-item l = items_have_float
    (items_view (drop l.item-index l.items)) ≡ items_have_float (items_view l.items)

abbrev pub invariant-members_have_fraction-loop-member : goal.invariant-members_have_fraction-loop-member
invariant-members_have_fraction-loop-member l = members_have_float
    (members_view (drop l.member-index l.members)) ≡ members_have_float (members_view l.members)
