use Rattle.std.proofs.Common.{◌≡◌, List, drop}
use Rattle.json.specs.Token.{Token}
use Rattle.cdf_node.specs.View.{items_view, members_view}
use Rattle.cdf_node.proofs.Writing.{WritesItems, WritesMembers}
use Rattle.cdf_node.proofs.write.+write.Given as goal

-- whatever ends the array well from here ends it well from the start
abbrev pub invariant-write_items-items : goal.invariant-write_items-items
invariant-write_items-items l = record {
  before : l.out.before ≡ l.initial.out.before;
  rest : (end : List Token) → WritesItems (items_view (drop l.item-index l.items)) l.out.tokens end
      → WritesItems (items_view l.items) l.initial.out.tokens end;
}

abbrev pub invariant-write_members-members : goal.invariant-write_members-members
invariant-write_members-members l = record {
  before : l.out.before ≡ l.initial.out.before;
  rest : (end : List Token) → WritesMembers (members_view (drop l.member-index l.members))
      l.out.tokens end → WritesMembers (members_view l.members) l.initial.out.tokens end;
}
