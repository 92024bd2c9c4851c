-- Each fact is shown in some volume.
use Rattle.std.proofs.Common.{◌≡◌, ◌<◌, ◌≤◌, ◌-◌, ℕ, suc, min, List, [], ◌∷◌, map, length, get_or}
use Rattle.std.proofs.Common.{Contains, Bool, true, false, nat_le, inl, inr, refl, sym, ap, ◌∙◌}
use Rattle.std.proofs.Common.{subst, arith}
use Rattle.std.specs.Prelude.{if◌then◌else◌}
use Rattle.std.specs.List.{filter}
use Rattle.std.specs.FinSet.{contains, items, len}
use Rattle.std.proofs.lemmas.List.{length-reverse}
use Rattle.std.proofs.lemmas.Bool.{le-leb}
use Rattle.cvr_fact_types.specs.declared.name.RecordName.{RecordName}
use Rattle.cvr_facts.specs.Choosing.{choice_cmp}
use Rattle.cvr_fact_types.specs.Facts.{Fact, Device, Header, Snapshot, Facts, text_cmp}
use Rattle.cvr_facts.specs.Ordered.{keys_in_order}
use Rattle.cvr_facts.proofs.Laws.{text_total, text_exact, choice_total, choice_exact, contains_iff}
use Rattle.cvr_facts.proofs.Lemmas.{none_listed, head_or_tail, in_map, from_map, same_from_list}
use Rattle.cvr_facts.proofs.Lemmas.{at_head, at_tail, ordered_rises, Contains-filter_map}
use Rattle.cvr_office.specs.declared.conflict.ConflictName.TheVariants as name
use Rattle.cvr_office.specs.Names.{names, name_of, body_of, is_named, records, record_of}
use Rattle.cvr_office.specs.Names.{snapshot_ids, count_under, bodies_under, most, greatest_count}
use Rattle.cvr_office.specs.Readers.{header_list, device_list, snapshot_list}
use Rattle.cvr_office.proofs.Lemmas.{from_ordered, in_ordered, len-from_list}
use Rattle.cvr_office.proofs.Laws.{conflict_total, conflict_exact, name_total, name_exact}
use Rattle.cvr_report.specs.Page.{shown_body, body_counts, stands, volumes}
use Rattle.cvr_report.proofs.Laws.{shown_at}
use Rattle.cvr_exchange.proofs.Shown.{of_device, of_header, of_snapshot, of_id}

-- ---- the greatest number

le_most : (b : Bool) (n m : ℕ) → nat_le n m ≡ b
    → (n ≤ (if b then m else n)) × (m ≤ (if b then m else n))
le_most true n m is = (grind (arith, is), omega arith)
le_most false n m is = (omega arith, grind (arith, is))

most_above : (ns : List ℕ) (n : ℕ) → Contains ns n → n ≤ most ns
most_above [] n a = absurd (none_listed n a)
most_above (m ∷ ns) n a =
    let p = le_most (nat_le m (most ns)) m (most ns) refl in
    elim (head_or_tail m n ns a) [
      | inl is ↦ subst (λ x. x ≤ most (m ∷ ns)) is p.0
      | inr more ↦ let q = most_above ns n more in let r = p.1 in omega (arith, q, r)
    ]

-- ---- the number of a body

-- a body stands in its list at some number, from 1
place_of : (xs : List (List ℕ)) (b : List ℕ) → Contains xs b
    → (i : ℕ) × (0 < i) × (i ≤ length xs) × (shown_body i xs ≡ b)
place_of xs b a =
    let lt = a.1 in
    let e : min (suc a.0) (length xs) - 1 ≡ a.0 = omega (arith, lt) in (
      suc a.0,
      omega arith,
      omega (arith, lt),
      shown_at (suc a.0) xs b (omega arith)
          (omega (arith, lt)) ∙ (ap (λ k. get_or xs k b) e ∙ a.2),
    )

-- in either order there are as many
same_length : (ks : List (List ℕ)) → length (keys_in_order choice_cmp ks)
    ≡ length (keys_in_order text_cmp ks)
same_length ks =
    let there : (b : List ℕ) → Contains (map (λ x. x) (keys_in_order choice_cmp ks)) b
    → Contains (map (λ x. x) (keys_in_order text_cmp ks)) b = λ b a.
    let p = from_map (λ x. x) b (keys_in_order choice_cmp ks) a in
    in_map (λ x. x) b (keys_in_order text_cmp ks)
    (in_ordered text_total text_exact ks b
    (from_ordered choice_total choice_exact ks b
    (subst (Contains (keys_in_order choice_cmp ks)) p.2 p.1))) in
    let back : (b : List ℕ) → Contains (map (λ x. x) (keys_in_order text_cmp ks)) b
    → Contains (map (λ x. x) (keys_in_order choice_cmp ks)) b = λ b a.
    let p = from_map (λ x. x) b (keys_in_order text_cmp ks) a in
    in_map (λ x. x) b (keys_in_order choice_cmp ks)
    (in_ordered choice_total choice_exact ks b
    (from_ordered text_total text_exact ks b
    (subst (Contains (keys_in_order text_cmp ks)) p.2 p.1))) in
    sym (len-from_list (λ (x : List ℕ). x) choice_total text_total text_exact
    (keys_in_order choice_cmp ks) (ordered_rises choice_cmp ks))
    ∙ (ap len (same_from_list text_total text_exact (map (λ x. x) (keys_in_order choice_cmp ks))
    (map (λ x. x) (keys_in_order text_cmp ks)) there back)
    ∙ len-from_list (λ (x : List ℕ). x) text_total text_total text_exact (keys_in_order text_cmp ks)
    (ordered_rises text_cmp ks))

module _ (s : Facts) where
  -- the bodies under the name of a fact are no more than the volumes
  count_within : (f : Fact) → contains s f ≡ true → count_under s (name_of f) ≤ volumes s
  count_within f h =
      let listed = in_ordered conflict_total conflict_exact (map name_of (items s)) (name_of f)
      (in_map name_of f (items s) ((contains_iff s f).0 h)) in
      let q : count_under s (name_of f)
      ≤ greatest_count s = most_above (map (count_under s) (names s))
      (count_under s (name_of f)) (in_map (count_under s) (name_of f) (names s) listed) in
      omega (arith, q)

  snapshots_counted : (key : RecordName) (id : List ℕ)
      → length (snapshot_list s key id) ≡ count_under s (name.Snapshot key id)
  snapshots_counted key id =
      length-reverse (keys_in_order choice_cmp
      (map body_of (filter (is_named (name.Snapshot key id)) (items s))))
      ∙ same_length (map body_of (filter (is_named (name.Snapshot key id)) (items s)))

  -- ---- where each fact is shown

  pub device_number : (id b : List ℕ) → contains s (Device id b) ≡ true
      → (i : ℕ) × (0 < i) × (i ≤ volumes s) × (shown_body i (device_list s id) ≡ b)
  device_number id b h =
      let p = place_of (device_list s id) b ((of_device s id b).1 h) in
      let n : length (device_list s id) ≡ count_under s (name.Device id) =
      length-reverse (bodies_under s (name.Device id)) in
      let q : count_under s (name.Device id) ≤ volumes s = count_within (Device id b) h in
      let r = p.2 in
      (p.0, p.1, omega (arith, n, q, r), p.3)

  abbrev key_of : List ℕ → List ℕ → RecordName
  key_of d u = record { device = d; unique = u }

  pub header_record : (d u b : List ℕ) → contains s (Header d u b) ≡ true
      → Contains (records s) (key_of d u)
  header_record d u b h =
      in_ordered name_total name_exact _ (key_of d u)
      (Contains-filter_map record_of (items s) (Header d u b) (key_of d u)
      ((contains_iff s (Header d u b)).0 h) refl)

  pub snapshot_record : (d u id b : List ℕ) → contains s (Snapshot d u id b) ≡ true
      → Contains (records s) (key_of d u)
  snapshot_record d u id b h =
      in_ordered name_total name_exact _ (key_of d u)
      (Contains-filter_map record_of (items s) (Snapshot d u id b) (key_of d u)
      ((contains_iff s (Snapshot d u id b)).0 h) refl)

  pub header_number : (d u b : List ℕ) → contains s (Header d u b) ≡ true
      → (i : ℕ) × (0 < i) × (i ≤ volumes s) × (stands s i (key_of d u) ≡ true)
      × (shown_body i (header_list s (key_of d u)) ≡ b)
  header_number d u b h =
      let key = key_of d u in
      let p = place_of (header_list s key) b ((of_header s key b).1 h) in
      let n : length (header_list s key) ≡ count_under s (name.Header key) =
      length-reverse (bodies_under s (name.Header key)) in
      let q : count_under s (name.Header key) ≤ volumes s = count_within (Header d u b) h in
      let r = p.2 in
      let m = most_above (body_counts s key) (length (header_list s key))
      (at_head (length (header_list s key)) _) in (
        p.0,
        p.1,
        omega (arith, n, q, r),
        le-leb p.0 (most (body_counts s key))
            (omega (arith, m, r)),
        p.3,
      )

  pub snapshot_number : (d u id b : List ℕ) → contains s (Snapshot d u id b) ≡ true
      → (i : ℕ) × (0 < i) × (i ≤ volumes s) × (stands s i (key_of d u) ≡ true)
      × (shown_body i (snapshot_list s (key_of d u) id) ≡ b)
  snapshot_number d u id b h =
      let key = key_of d u in
      let p = place_of (snapshot_list s key id) b ((of_snapshot s key id b).1 h) in
      let n = snapshots_counted key id in
      let q : count_under s (name.Snapshot key id) ≤ volumes s =
      count_within (Snapshot d u id b) h in
      let r = p.2 in
      let its = (of_id s key id).1 (b, h) in
      let m = most_above (body_counts s key) (length (snapshot_list s key id))
      (at_tail (length (header_list s key)) _ _
      (in_map (λ j. length (snapshot_list s key j)) id (snapshot_ids s key) its)) in (
        p.0,
        p.1,
        omega (arith, n, q, r),
        le-leb p.0 (most (body_counts s key))
            (omega (arith, m, r)),
        p.3,
      )
