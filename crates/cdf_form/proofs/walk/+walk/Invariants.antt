use Rattle.std.proofs.Common.{◌≡◌, ℕ, ◌+◌, ◌*◌, ◌≤◌, List, length, drop, [], true}
use Rattle.cdf_node.specs.View.{view, items_view, members_view}
use Rattle.cdf_form.specs.Tables.{entries_of}
use Rattle.cdf_form.specs.Form.{first, table_faults, items_faults, member_look}
use Rattle.cdf_form.specs.Seen.{HasTexts}
use Rattle.cdf_form.specs.Laws.{is_in_order}
use Rattle.cdf_form.proofs.Parts.{weight, items_weight}
use Rattle.cdf_form.proofs.Walking.{AllFound}
use Rattle.cdf_form.proofs.walk.+walk.Given as goal

abbrev pub decreases-walk : goal.decreases-walk
decreases-walk l = 4 * weight (view l.value.now) + 3

abbrev pub decreases-walk_one : goal.decreases-walk_one
decreases-walk_one l = 4 * weight (view l.value.now) + 2

abbrev pub decreases-walk_entries : goal.decreases-walk_entries
decreases-walk_entries l = 4 * weight (view l.value.now) + 1

abbrev pub decreases-walk_member : goal.decreases-walk_member
decreases-walk_member l = 4 * weight (view l.member.now) + 4

abbrev pub decreases-walk_items : goal.decreases-walk_items
decreases-walk_items l = 4 * items_weight (items_view l.items.now)

-- the first fault of the entries that are left is that of all, and their members are among the rest
abbrev pub invariant-walk_entries-loop-entry : goal.invariant-walk_entries-loop-entry
invariant-walk_entries-loop-entry l = record {
  same : first (table_faults (member_look (view l.value)) l.mark
      (entries_of (drop l.entry-index l.entries)))
      ≡ first (table_faults (member_look (view l.value)) l.mark (entries_of l.entries));
  rise : is_in_order (entries_of (drop l.entry-index l.entries)) ≡ true;
  within : l.place ≤ length l.members;
  there : AllFound (view l.value) (members_view (drop l.place l.members))
      (entries_of (drop l.entry-index l.entries));
}

abbrev pub invariant-walk_items-loop-place : goal.invariant-walk_items-loop-place
invariant-walk_items-loop-place l = record {
  texts : List (List ℕ);
  seen : HasTexts l.seen texts;
  rest : first (items_faults (items_view (drop l.place l.items)) l.leaf l.key l.place texts)
      ≡ first (items_faults (items_view l.items) l.leaf l.key 0 []);
}
