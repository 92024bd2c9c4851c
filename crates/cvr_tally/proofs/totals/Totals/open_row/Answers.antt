use Rattle.std.proofs.Common.{◌≡◌, ℕ, ◌<◌, ◌∙◌, List, length, get_or, map, false, Some, ap, sym}
use Rattle.std.proofs.Common.{subst, arith, rules}
use Rattle.std.proofs.lemmas.List.{length-map}
use Rattle.std.specs.Map.{lookup}
use Rattle.std.specs.BTreeMap.{is_at}
use Rattle.std.specs.Option.{option_map_or, unwrap_or}
use Rattle.std.specs.FinMap as rows
use Rattle.cdf_parts.specs.Places.{Contest, selections_at}
use Rattle.cvr_tally.specs.declared.contest_ids.ContestIds.{ContestIds}
use Rattle.cvr_tally.specs.declared.key.RowKey.{RowKey}
use Rattle.cvr_tally.specs.declared.row.Row.{Row}
use Rattle.cvr_tally.specs.Keys.{key_cmp, keys_total, keys_exact}
use Rattle.cvr_tally.specs.Rows.{rows_opened, zero_row}
use Rattle.cvr_tally.proofs.Contests.{selections_at-map}
use Rattle.cvr_tally.proofs.Maps.{opened_at, all_stay}
use Rattle.cvr_tally.proofs.Kept.{are_of, kept, opened}
use Rattle.cvr_tally.proofs.totals.Totals.open_row.Goals as goal

abbrev seen : ContestIds → Contest
seen c = (c.id, c.selections)

-- the contest at a place has that many selections
many : (items : List ContestIds) (i : ℕ) (x : ContestIds) (ids : List (List ℕ))
    → i < length (map seen items) → x ≡ get_or items i x → ids ≡ x.selections
    → length ids ≡ length (selections_at (map seen items) i)
many items i x ids lt is own =
    let len = length-map items seen in
    ap length (own ∙ (ap (λ c. c.selections) is
    ∙ sym (selections_at-map seen items i x (omega arith))))

opened_with : (cs : List Contest) (es fs : List (RowKey × Row)) (k : RowKey) (n : ℕ)
    → n ≡ length (selections_at cs k.contest)
    → lookup (is_at (key_cmp k)) fs ≡ Some (unwrap_or (lookup (is_at (key_cmp k)) es) (zero_row n))
    → ((q : RowKey) → is_at (key_cmp k) q ≡ false
    → lookup (is_at (key_cmp q)) fs ≡ lookup (is_at (key_cmp q)) es)
    → rows.from_entries {R = key_cmp} fs ≡ rows_opened cs (rows.from_entries es) k
opened_with cs es fs k n is here others =
    opened_at keys_total keys_exact (zero_row n) es fs k here others
    ∙ ap (λ y. option_map_or (λ _. rows.from_entries es)
    (rows.get (rows.from_entries {R = key_cmp} es) k)
    (rows.insert (rows.from_entries es) k (zero_row y))) is

pub invariant_of-self : goal.invariant_of-self
invariant_of-self c =
    let new = all_stay keys_total keys_exact c.self.inside.rows.entries c.open_at.new.rows.entries
    c.in-Err.ensures.err in
    kept _ _ _ _ new (are_of _ _ _ c.self.invariant)

pub returns-in-Err-clause-err : goal.returns-in-Err-clause-err
returns-in-Err-clause-err c = all_stay keys_total keys_exact c.self.inside.rows.entries
    c.open_at.new.rows.entries c.in-Err.ensures.err ∙ ap (λ t. t.rows) c.self.view_is

pub invariant_of-self-2 : goal.invariant_of-self-2
invariant_of-self-2 c =
    let items = c.self.inside.contests.items in
    let lt : c.args.key.now.contest < length (map seen items) =
    subst (λ t. c.args.key.now.contest < length t.contests) (sym c.self.view_is) c.requires in
    let is : c.index.result.now ≡ get_or items c.args.key.now.contest c.index.result.now =
    search rules in
    let new = opened_with (map seen items) c.self.inside.rows.entries c.open_at.new.rows.entries
    c.args.key.now _ (many items _ _ _ lt is c.as_slice-selections.ensures)
    c.in_default.ensures.here c.open_at.ensures.others in
    kept _ _ _ _ new (opened _ _ _ lt (are_of _ _ _ c.self.invariant))

pub returns-clause-ok : goal.returns-clause-ok
returns-clause-ok c =
    let items = c.self.inside.contests.items in
    let lt : c.args.key.now.contest < length (map seen items) =
    subst (λ t. c.args.key.now.contest < length t.contests) (sym c.self.view_is) c.requires in
    let is : c.index.result.now ≡ get_or items c.args.key.now.contest c.index.result.now =
    search rules in
    opened_with (map seen items) c.self.inside.rows.entries c.open_at.new.rows.entries
    c.args.key.now _ (many items _ _ _ lt is c.as_slice-selections.ensures)
    c.in_default.ensures.here c.open_at.ensures.others
    ∙ ap (λ t. rows_opened t.contests t.rows c.args.key.now) c.self.view_is
