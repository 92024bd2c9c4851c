-- What is answered of a set of facts that is given by a list.
use Rattle.std.proofs.Common.{◌≡◌, ℕ, ◌==◌, ◌&&◌, ◌||◌, Bool, true, cond, List, [], ◌∷◌, ◌++◌, map}
use Rattle.std.proofs.Common.{length, find, is_some, Contains, Option, Some, None, option_map}
use Rattle.std.proofs.Common.{Ordering, nat_le, refl, sym, ap, ◌∙◌, subst}
use Rattle.std.specs.List.{filter, filter_map, flat_map, sum_by}
use Rattle.std.specs.Option.{option_map_or}
use Rattle.std.specs.Cmp.{IsTotalOrder, eq_by_cmp_equiv}
use Rattle.std.specs.Ordering.{eq_by_cmp}
use Rattle.std.specs.FinMap as map_of
use Rattle.std.specs.FinMap.{IsAntisymmetric, from_entries}
use Rattle.std.specs.FinSet.{items, from_list, union, same_set, contains-items, contains-from_list}
use Rattle.std.specs.FinSet.{contains-union}
use Rattle.std.proofs.lemmas.Map.Views.{Contains-from_any, list_any-from_Contains, tells_apart}
use Rattle.std.proofs.lemmas.List.Folds.{list_any-append}
use Rattle.cdf_parts.specs.Places.{Contest, selections_at}
use Rattle.cdf_typed.specs.Greatest.{max_by}
use Rattle.cvr_fact_types.specs.declared.name.RecordName.{RecordName}
use Rattle.cvr_fact_types.specs.declared.sums.VoteSums.{VoteSums}
use Rattle.cvr_fact_types.specs.Columns.{Column, worth}
use Rattle.cvr_fact_types.specs.Facts.{Fact, Facts, fact_cmp, fact_total, fact_exact, text_cmp}
use Rattle.cvr_fact_types.specs.Facts.{name_cmp}
use Rattle.cvr_facts.specs.Ordered.{keys_of, keys_in_order}
use Rattle.cvr_facts.specs.Choosing.{choice_cmp, header_body, snapshot_body, current}
use Rattle.cvr_facts.proofs.Laws.{text_total, text_exact, choice_total, choice_exact}
use Rattle.cvr_facts.proofs.Lemmas.{greatest_is, is_greatest, in_map, from_map, ordered_rises}
use Rattle.cvr_facts.proofs.Lemmas.{Contains-filter_map, from-filter_map}
use Rattle.cvr_tally.specs.declared.key.RowKey.{RowKey}
use Rattle.cvr_tally.specs.declared.row.Row.{Row}
use Rattle.cvr_tally.specs.Keys.{key_cmp, keys_total}
use Rattle.cvr_tally.specs.Rows.{number_in, row_by}
use Rattle.cvr_tally.specs.Text.{row_line, tally_text}
use Rattle.cvr_tally.specs.Examples.{text_of}
use Rattle.cvr_tally.proofs.Lemmas.{placed, entries-given}
use Rattle.cvr_office.specs.declared.conflict.ConflictName.{ConflictName}
use Rattle.cvr_office.specs.declared.conflict.Conflict.{Conflict}
use Rattle.cvr_office.specs.Names.{name_of, body_of, conflict_cmp, is_named, record_of, names}
use Rattle.cvr_office.specs.Names.{records, conflicts}
use Rattle.cvr_office.specs.Tallied.{unit_of, batch_of, sums_of_body, is_headed, row, rows, tally}
use Rattle.cvr_office.specs.Counting.{total_of}
use Rattle.cvr_office.proofs.InOrder.{in_ordered, from_ordered, keys_in_order-members}
use Rattle.cvr_office.proofs.NameOrder.{conflict_total, conflict_exact}
use Rattle.cvr_office.proofs.Runs.{name_total}
use Rattle.cvr_office.proofs.RecordMembers.{name_exact}
use Rattle.cvr_office.proofs.RecordMembers.{from_filter, in_filter}

-- ---- lists in order

-- each put in its place
abbrev pub sorted : {K : Type 0} → (K → K → Ordering) → List K → List K
sorted R ks = map (λ e. e.0) (placed R (map (λ k. (k, tt {0})) ks))

keys_given : {K : Type 0} (R : K → K → Ordering) (ks : List K)
    → keys_of R ks ≡ from_entries (map (λ k. (k, tt {0})) ks)
keys_given R [] = refl
keys_given R (k ∷ ks) = ap (λ m. map_of.insert m k tt) (keys_given R ks)

pub keys_in_order-is : {K : Type 0} {R : K → K → Ordering} → IsTotalOrder R → (ks : List K)
    → keys_in_order R ks ≡ sorted R ks
keys_in_order-is {R = R} t ks = ap map_of.keys (keys_given R ks)
    ∙ ap (map (λ e. e.0)) (entries-given t (map (λ k. (k, tt {0})) ks))

-- the members alone decide the list in order, and the greatest
pub record HaveSame {K : Type 0} (xs ys : List K) : Type 0 where
  pub there : (k : K) → Contains xs k → Contains ys k
  pub back : (k : K) → Contains ys k → Contains xs k

sorted-same : {K : Type 0} {R : K → K → Ordering} → IsTotalOrder R → IsAntisymmetric R
    → (xs ys : List K) → HaveSame xs ys → keys_in_order R xs ≡ sorted R ys
sorted-same {R = R} t e xs ys same =
    keys_in_order-members t e xs (keys_in_order R ys) (ordered_rises R ys)
    (λ k at. same.back k (from_ordered t e ys k at))
    (λ k at. in_ordered t e ys k (same.there k at))
    ∙ keys_in_order-is t ys

pub max_by-same : {K : Type 0} {R : K → K → Ordering} → IsTotalOrder R → IsAntisymmetric R
    → (xs ys : List K) → HaveSame xs ys → max_by R xs ≡ max_by R ys
max_by-same {R = R} t e xs ys same =
    elim (max_by R xs) as (λ o. max_by R xs ≡ o → o ≡ max_by R ys) [
      | Some x ↦ λ is. let top = greatest_is t xs x is in
          sym (is_greatest t e ys x (record
          { listed = same.there x top.listed; top = λ y at. top.top y (same.back y at) }))
      | None ↦ λ is. elim (max_by R ys) as (λ o. max_by R ys ≡ o → None ≡ o) [
        | Some y ↦ λ also. let top = greatest_is t ys y also in
            let found = is_greatest t e xs y
            (record {
              listed = same.back y top.listed;
              top = λ z at. top.top z (same.there z at);
            }) in
            sym is ∙ found
        | None ↦ λ _. refl
      ] refl
    ] refl

-- ---- a set that is given by a list

module _ (fs : List Fact) where
  abbrev pub given : Facts
  given = from_list fs

  members : HaveSame (items given) fs
  members = record {
    there = λ f at. Contains-from_any (tells_apart fact_exact) f fs
        (sym (contains-from_list fact_total fs f)
        ∙ (contains-items given f ∙ list_any-from_Contains (eq_by_cmp_equiv fact_total) f
        (items given) at));
    back = λ f at. Contains-from_any (tells_apart fact_exact) f (items given)
        (sym (contains-items given f) ∙
        (contains-from_list fact_total fs f
        ∙ list_any-from_Contains (eq_by_cmp_equiv fact_total) f fs at));
  }

  picked : {K : Type 0} (pick : Fact → Option K)
      → HaveSame (filter_map pick (items given)) (filter_map pick fs)
  picked pick = record {
    there = λ k at. let f = from-filter_map pick (items given) k at in
        Contains-filter_map pick fs f.0 k (members.there f.0 f.1) f.2;
    back = λ k at. let f = from-filter_map pick fs k at in
        Contains-filter_map pick (items given) f.0 k (members.back f.0 f.1) f.2;
  }

  names_told : HaveSame (map name_of (items given)) (map name_of fs)
  names_told = record {
    there = λ n at. let f =
        from_map name_of n (items given) at in stated n fs f.0 (members.there f.0 f.1) f.2;
    back = λ n at. let f =
        from_map name_of n fs at in stated n (items given) f.0 (members.back f.0 f.1) f.2;
  }
    where
      stated : (n : ConflictName) (xs : List Fact) (f : Fact) → Contains xs f → name_of f ≡ n
          → Contains (map name_of xs) n
      stated n xs f at is = subst (Contains (map name_of xs)) is (in_map name_of f xs at)

  bodies_told : (n : ConflictName) → HaveSame (map body_of (filter (is_named n) (items given)))
      (map body_of (filter (is_named n) fs))
  bodies_told n = record {
    there = λ b at. let f = from_map body_of b (filter (is_named n) (items given)) at in
        let own = from_filter (is_named n) (items given) f.0 f.1 in
        stated b fs f.0 (members.there f.0 own.0) own.1 f.2;
    back = λ b at. let f = from_map body_of b (filter (is_named n) fs) at in
        let own = from_filter (is_named n) fs f.0 f.1 in
        stated b (items given) f.0 (members.back f.0 own.0) own.1 f.2;
  }
    where
      stated : (b : List ℕ) (xs : List Fact) (f : Fact) → Contains xs f → is_named n f ≡ true
          → body_of f ≡ b → Contains (map body_of (filter (is_named n) xs)) b
      stated b xs f at own is = subst (Contains (map body_of (filter (is_named n) xs))) is
          (in_map body_of f (filter (is_named n) xs) (in_filter (is_named n) xs f at own))

-- ---- conflicts

-- the names with several bodies among these, each with their number
abbrev counted : List Fact → ConflictName → Conflict
counted fs n =
    record { name = n; bodies = length (sorted text_cmp (map body_of (filter (is_named n) fs))) }

abbrev pub conflicts_in : List Fact → List Conflict
conflicts_in fs =
    filter (λ c. nat_le 2 c.bodies) (map (counted fs) (sorted conflict_cmp (map name_of fs)))

pub conflicts-given : (fs : List Fact) → conflicts (given fs) ≡ conflicts_in fs
conflicts-given fs =
    let all : names (given fs) ≡ sorted conflict_cmp (map name_of fs) =
    sorted-same conflict_total conflict_exact _ _ (names_told fs) in
    λ i. filter (λ (c : Conflict). nat_le 2 c.bodies)
    (map (λ (n : ConflictName). record {
      name = n;
      bodies = length (sorted-same text_total text_exact _ _ (bodies_told fs n) i);
    }) (all i))

-- ---- records and their current snapshots

pub records-given : (fs : List Fact) → records (given fs)
    ≡ sorted name_cmp (filter_map record_of fs)
records-given fs = sorted-same name_total name_exact _ _ (picked fs record_of)

pub current-given : (fs : List Fact) (key : RecordName)
    → current (given fs) key ≡ max_by choice_cmp (filter_map (snapshot_body key) fs)
current-given fs key = max_by-same choice_total choice_exact _ _ (picked fs (snapshot_body key))

-- ---- the tally

-- rows of these records, by what their header and their current snapshot spell
module _ (contests : List Contest) (rs : List RecordName)
    (head now : RecordName → Option (List ℕ)) where
  abbrev sums : ℕ → RecordName → Option VoteSums
  sums c r = find (λ v. v.contest == c) (option_map_or (sums_of_body contests) (now r) [])

  abbrev stands : RowKey → RecordName → Bool
  stands q r = is_headed q (head r) && is_some (sums q.contest r)

  abbrev total : ℕ → List RecordName → Column → ℕ
  total c xs column = sum_by (λ r. option_map_or (worth column) (sums c r) 0) xs

  abbrev row_of_all : ℕ → List RecordName → Row
  row_of_all c xs = row_by (length (selections_at contests c)) (total c xs)

  abbrev row_with : RowKey → List RecordName → Option Row
  row_with q xs = cond (length xs == 0) None (Some (row_of_all q.contest xs))

  abbrev keys_with : RecordName → List RowKey
  keys_with r = option_map_or (λ h. map
      (λ v. record { contest = v.contest; unit = unit_of h; batch = batch_of h })
      (option_map_or (sums_of_body contests) (now r) [])) (head r) []

  abbrev found_row : RowKey → Option Row
  found_row q = row_with q (filter (stands q) rs)

  abbrev found_rows : List (RowKey × Row)
  found_rows = filter_map (λ q. option_map (λ r. (q, r)) (found_row q)) (flat_map keys_with rs)

abbrev pub rows_in : List Contest → List Fact → List (RowKey × Row)
rows_in contests fs = found_rows contests (sorted name_cmp (filter_map record_of fs))
    (λ r. max_by text_cmp (filter_map (header_body r) fs))
    (λ r. max_by choice_cmp (filter_map (snapshot_body r) fs))

rows-given : (contests : List Contest) (fs : List Fact)
    → rows contests (given fs) ≡ from_entries (rows_in contests fs)
rows-given contests fs =
    λ i. from_entries {R = key_cmp} (found_rows contests (records-given fs i)
    (λ r. max_by-same text_total text_exact _ _ (picked fs (header_body r)) i)
    (λ r. current-given fs r i))

pub tally-given : (contests : List Contest) (fs : List Fact) (es : List (RowKey × Row))
    → placed key_cmp (rows_in contests fs) ≡ placed key_cmp es
    → tally contests (given fs) ≡ text_of contests es
tally-given contests fs es same =
    ap (tally_text contests) (rows-given contests fs)
    ∙ ap (flat_map (row_line contests)) (entries-given keys_total (rows_in contests fs)
    ∙ (same ∙ sym (entries-given keys_total es)))

-- what columns of a contest come to
pub totals-given : (contests : List Contest) (fs : List Fact) (c : ℕ) (columns : List Column)
    → map (total_of (rows contests (given fs)) c) columns
    ≡ map (λ column. sum_by (λ e. number_in column e.1)
    (filter (λ e. e.0.contest == c) (placed key_cmp (rows_in contests fs)))) columns
totals-given contests fs c columns =
    ap (λ m. map (total_of m c) columns) (rows-given contests fs)
    ∙ ap (λ (es : List (RowKey × Row)). map (λ column. sum_by (λ e. number_in column e.1)
    (filter (λ e. e.0.contest == c) es)) columns)
    (entries-given keys_total (rows_in contests fs))

-- ---- one row

abbrev pub row_in : List Contest → List Fact → RowKey → Option Row
row_in contests fs q = found_row contests (sorted name_cmp (filter_map record_of fs))
    (λ r. max_by text_cmp (filter_map (header_body r) fs))
    (λ r. max_by choice_cmp (filter_map (snapshot_body r) fs)) q

pub row-given : (contests : List Contest) (fs : List Fact) (q : RowKey)
    → row contests (given fs) q ≡ row_in contests fs q
row-given contests fs q =
    λ i. found_row contests (records-given fs i)
    (λ r. max_by-same text_total text_exact _ _ (picked fs (header_body r)) i)
    (λ r. current-given fs r i) q

-- the facts of two lists are those of both
pub union-given : (xs ys : List Fact) → union (given xs) (given ys) ≡ given (xs ++ ys)
union-given xs ys = same_set fact_total fact_exact _ _ (λ q.
    contains-union fact_total (given xs) (given ys) q
    ∙ ((λ i. contains-from_list fact_total xs q i || contains-from_list fact_total ys q i)
    ∙ (sym (list_any-append (eq_by_cmp fact_cmp q) xs ys)
    ∙ sym (contains-from_list fact_total (xs ++ ys) q))))
