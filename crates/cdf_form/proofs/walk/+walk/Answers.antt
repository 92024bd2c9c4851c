use Rattle.std.proofs.Common.{◌≡◌, ◌+◌, ◌<◌, length, get_or, drop, Option, Some, None}
use Rattle.std.proofs.Common.{option_map, [], false, Bor, refl, sym, ap, ◌∙◌, rules, arith}
use Rattle.std.proofs.Common.{subst}
use Rattle.std.specs.Bool.{OnTrue}
use Rattle.serde_json.specs.Data.{Data}
use Rattle.cdf_node.specs.declared.node.Node.{Node}
use Rattle.cdf_node.specs.View.{view, items_view}
use Rattle.cdf_node.specs.Order.{IsSorted}
use Rattle.cdf_form.specs.declared.table.Member.{Member}
use Rattle.cdf_form.specs.declared.table.Kind.TheVariants as kind
use Rattle.cdf_form.specs.declared.table.Leaf.TheVariants as leaf
use Rattle.cdf_form.specs.declared.table.Key.TheVariants as key
use Rattle.cdf_form.specs.Tables.{entry_of, entries_of}
use Rattle.serde_json.specs.Find.{get}
use Rattle.cdf_form.specs.Form.{first, at_member, deeper_fault, faults, items_faults, entry_faults}
use Rattle.cdf_form.specs.Form.{member_look, mark_of, key_text, add_text}
use Rattle.cdf_form.proofs.Parts.{item_is_lighter, items_go, items_weight, part_is_lighter, weight}
use Rattle.cdf_form.proofs.Sorted.{item_is_sorted, names_rise, part_is_sorted}
use Rattle.cdf_form.proofs.Walking.{all_members, found_at, found_on, may_lack, rise_on, entries_go}
use Rattle.cdf_form.proofs.Walking.{entries_stop, tells_as}
use Rattle.cdf_form.proofs.walk.+walk.Goals as goal
use Rattle.cdf_form.proofs.walk.+walk.Goals.{walk_entries-in-None+else-entry, walk_entries-in-Some+in-Ok}

-- ---- walk_rows

abbrev no_entry : Member
no_entry = record {
  name = record { ref_ptr = (0, 0); now = [] };
  required = false;
  kind = kind.One leaf.Text;
}

pub walk_entries-loop-entry-init : goal.walk_entries-loop-entry-init
walk_entries-loop-entry-init t c = record {
  same = refl;
  rise = c.requires.rise;
  within = omega arith;
  there = all_members (view c.args.value.now) _ (entries_of c.args.entries.now)
      c.members_of-members.ensures;
}

pub walk_entries-walk_member-requires : goal.walk_entries-walk_member-requires
walk_entries-walk_member-requires t c =
    let d = view c.args.value.now in
    let rs = c.args.entries.now in
    let i = c.loop-entry.entry-index in
    let there : get (get_or rs i no_entry).name.now d ≡ Some (view c.in-Some.member.now) =
    sym (found_at d _ rs i no_entry c.loop-entry-test.true c.loop-entry.invariant.there)
    ∙ sym c.find_from-next.ensures.value
    ∙ ap (option_map (λ (v : Bor Node). view v.now)) c.in-Some.is in
    let lighter = part_is_lighter d (get_or rs i no_entry).name.now _ there in
    let names = part_is_sorted c.args.sorted d (get_or rs i no_entry).name.now _ there
    c.requires.names in
    search rules

pub walk_entries-find_from-next-requires-clause-rise :
    goal.walk_entries-find_from-next-requires-clause-rise
walk_entries-find_from-next-requires-clause-rise t c =
    names_rise c.args.sorted (view c.args.value.now) _ c.members_of-members.ensures c.requires.names

pub walk_entries-loop-entry-preserved : goal.walk_entries-loop-entry-preserved
walk_entries-loop-entry-preserved t c =
    let d = view c.args.value.now in
    let rs = c.args.entries.now in
    let i = c.loop-entry.entry-index in
    let r = get_or rs i no_entry in
    let lt = c.loop-entry-test.true in
    let at : get r.name.now d
    ≡ option_map (λ (v : Bor Node). view v.now) c.find_from-next.result.0 =
    sym (found_at d _ rs i no_entry lt c.loop-entry.invariant.there)
    ∙ sym c.find_from-next.ensures.value in
    let looked = λ (o : Option (Bor Node)).
    first (entry_faults c.args.mark (entry_of r) (option_map (λ (e : Data). faults e r.kind key.Free)
    (option_map (λ (v : Bor Node). view v.now) o))) in
    let none : first (entry_faults c.args.mark (entry_of r) (member_look d r.name.now r.kind))
    ≡ None =
    ap (λ (o : Option Data). first (entry_faults c.args.mark (entry_of r)
    (option_map (λ (e : Data). faults e r.kind key.Free) o))) at
    ∙ elim c.match-found.branch [
      | walk_entries-in-None+else-entry w ↦
          ap looked w.in-None.is ∙ may_lack c.args.mark (entry_of r) w.if-entry.false
      | walk_entries-in-Some+in-Ok w ↦ ap looked w.in-Some.is ∙ w.in-Ok.ensures.none
    ] in
    record {
      same = entries_go (member_look d) c.args.mark rs i no_entry lt none ∙ c.loop-entry.invariant.same;
      rise = rise_on rs i no_entry lt c.loop-entry.invariant.rise;
      within = c.find_from-next.ensures.place;
      there = found_on d _ _ rs i no_entry lt c.loop-entry.invariant.rise c.loop-entry.invariant.there
          c.find_from-next.ensures.left;
    }

pub walk_entries-returns-in-Err-clause-fault : goal.walk_entries-returns-in-Err-clause-fault
walk_entries-returns-in-Err-clause-fault t c =
    let d = view c.args.value.now in
    let rs = c.args.entries.now in
    let i = c.loop-entry.entry-index in
    let r = get_or rs i no_entry in
    let there : get r.name.now d ≡ Some (view c.in-Some.member.now) =
    sym (found_at d _ rs i no_entry c.loop-entry-test.true c.loop-entry.invariant.there)
    ∙ sym c.find_from-next.ensures.value
    ∙ ap (option_map (λ (v : Bor Node). view v.now)) c.in-Some.is in
    let found = ap (λ o. option_map (deeper_fault (at_member r.name.now))
    (first (entry_faults c.args.mark (entry_of r)
    (option_map (λ e. faults e r.kind key.Free) o)))) there in
    let own = tells_as c.under-in-Err.result _ _ (sym found)
    (c.under-in-Err.ensures _ c.in-Err.ensures.fault) in
    tells_as c.under-in-Err.result _ _ c.loop-entry.invariant.same
    (entries_stop (member_look d) c.args.mark rs i no_entry c.loop-entry-test.true
    c.under-in-Err.result own)

-- ---- walk_items

pub walk_items-walk-requires : goal.walk_items-walk-requires
walk_items-walk-requires t c =
    let vs = c.args.items.now in
    let i = c.loop-place.place in
    let v = c.index-items-place.result in
    let lt : i < length vs = search rules in
    let is : v ≡ get_or vs i v = search rules in
    let lighter : weight (view v) < items_weight (items_view vs) =
    subst (λ x. weight (view x) < items_weight (items_view vs)) (sym is)
    (item_is_lighter vs i v lt) in
    let names = subst (λ x. OnTrue c.args.sorted (IsSorted (view x))) (sym is)
    (item_is_sorted c.args.sorted vs i v lt c.requires.names) in
    search rules

pub walk_items-loop-place-preserved : goal.walk_items-loop-place-preserved
walk_items-loop-place-preserved t c =
    let vs = c.args.items.now in
    let i = c.loop-place.place in
    let texts = c.loop-place.invariant.texts in
    let lt : i < length vs = search rules in
    let is : c.index-items-place.result ≡ get_or vs i c.index-items-place.result = search rules in
    let step = c.in_ok-mark.ensures texts c.loop-place.invariant.seen in
    let none : first (faults (view (get_or vs i c.index-items-place.result)) (kind.One c.args.leaf)
    (mark_of c.args.key texts (view (get_or vs i c.index-items-place.result))))
    ≡ None = rw (← is, ← step.0) (search rules) in
    let go : first (items_faults (items_view (drop i vs)) c.args.leaf c.args.key i texts)
    ≡ first (items_faults (items_view (drop (i + 1) vs)) c.args.leaf c.args.key (i + 1)
    (add_text (key_text c.args.key (view c.index-items-place.result)) texts)) =
    rw is (items_go vs c.args.leaf c.args.key i c.index-items-place.result texts lt none) in
    record {
      texts = add_text (key_text c.args.key (view c.index-items-place.result)) texts;
      seen = step.1;
      rest = sym go ∙ c.loop-place.invariant.rest;
    }
