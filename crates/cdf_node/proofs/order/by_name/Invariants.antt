use Rattle.std.proofs.Common.{◌≡◌, take}
use Rattle.cdf_node.specs.Order.{in_order}
use Rattle.cdf_node.specs.View.{members_view}
use Rattle.cdf_node.proofs.order.by_name.Given as goal

abbrev pub invariant-members : goal.invariant-members
invariant-members l = members_view l.placed.entries ≡ in_order (take l.member-index l.found)
