use Rattle.std.proofs.Common.{◌≡◌, ℕ, List, drop}
use Rattle.serde_json.specs.Find.{get_member}
use Rattle.cdf_node.specs.Order.{Before}
use Rattle.cdf_node.specs.View.{members_view}
use Rattle.cdf_node.proofs.member.find_from.Given as goal

abbrev pub invariant-loop-place : goal.invariant-loop-place
invariant-loop-place l = record {
  value : get_member l.name (members_view (drop l.place l.members))
      ≡ get_member l.name (members_view (drop l.from l.members));
  left : (q : List ℕ) → Before l.name q → get_member q (members_view (drop l.place l.members))
      ≡ get_member q (members_view (drop l.from l.members));
}
