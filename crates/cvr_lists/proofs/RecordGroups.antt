-- The snapshots of a record's run, by id.
use Rattle.std.proofs.Common.{◌≡◌, ℕ, ◌+◌, ◌<◌, true, false, List, length, get_or, map, Contains}
use Rattle.std.proofs.Common.{Ordering, Less, Equal, Greater, Some, refl, sym, ap, ◌∙◌, subst}
use Rattle.std.proofs.Common.{arith}
use Rattle.std.specs.Prelude.{bytes_eq}
use Rattle.std.specs.List.{dedup}
use Rattle.std.specs.List.Sorted.{IsStrictlySortedBy, IsSorted}
use Rattle.std.specs.Ordering.{is_lt, is_gt, is_eq, ordering_then}
use Rattle.std.specs.Option.{option_cmp}
use Rattle.std.specs.FinSet.{contains}
use Rattle.std.specs.Cmp.{Equal-is}
use Rattle.std.specs.Cmp.Lexicographic.{options_total}
use Rattle.std.proofs.lemmas.Cmp.{nat_list_eq_equiv}
use Rattle.std.proofs.lemmas.Slice.Eq.{bytes_eq-Decides}
use Rattle.std.proofs.lemmas.List.Elements.{filter_passes, Contains-get_or}
use Rattle.std.proofs.lemmas.List.Kept.{IsStrictlySortedBy-filter, IsStrictlySortedBy-dedup}
use Rattle.std.proofs.lemmas.List.Kept.{Contains-dedup, Contains-from_dedup}
use Rattle.std.proofs.lemmas.Map.Keys.{Less-from_sorted}
use Rattle.std.proofs.lemmas.Map.Text.{is_eq-slice_cmp}
use Rattle.cvr_fact_types.specs.declared.name.RecordName.{RecordName}
use Rattle.cvr_fact_types.specs.declared.snapshot.SnapshotFact.{SnapshotFact}
use Rattle.cvr_fact_types.specs.Facts.{Snapshot, text_cmp}
use Rattle.cvr_facts.proofs.Laws.{text_total, text_exact}
use Rattle.cvr_facts.proofs.Lemmas.{in_map, from_map, Contains-filter_map, from-filter_map}
use Rattle.cvr_office.specs.declared.any_fact.AnyFact.{AnyFact}
use Rattle.cvr_office.specs.declared.any_fact.AnyFact.TheVariants as any
use Rattle.cvr_office.specs.Names.{snapshot_ids}
use Rattle.cvr_office.specs.Place.{any_cmp}
use Rattle.cvr_office.specs.Plain.{set_of}
use Rattle.cvr_office.specs.Runs.{is_of, run, as_snapshot, snapshots}
use Rattle.cvr_lists.specs.Groups.{snapshot_id, id_order, with_id, ids, RisesById}
use Rattle.cvr_office.proofs.Lemmas.{keys_in_order-members, first_not_gt}
use Rattle.cvr_lists.proofs.Lifting.{rises-filter_map, rises-map}
use Rattle.cvr_lists.proofs.Orderings.{then-Equal}
use Rattle.cvr_office.proofs.Lemmas.{past_key, same_name, of_snapshot, from_filter, in_filter}
use Rattle.cvr_office.proofs.Lemmas.{from_snapshots, snapshot_held, held_snapshot}
use Rattle.cvr_office.proofs.Laws.{id_under}
use Rattle.cvr_office.proofs.Lemmas.{not_before}
use Rattle.cvr_office.proofs.Lemmas.{sorted-map}

-- ---- ids along a run

abbrev pub snapshot_order : SnapshotFact → SnapshotFact → Ordering
snapshot_order x y = any_cmp (any.Snapshot x) (any.Snapshot y)

-- of two snapshots of one record, the first's id isn't past the other's
ids_rise : (x y : SnapshotFact) → x.key ≡ y.key → snapshot_order x y ≡ Less
    → is_gt (text_cmp x.id y.id) ≡ false
ids_rise x y same h =
    first_not_gt (text_cmp x.id y.id) (ordering_then (text_cmp x.body y.body) Equal)
    (sym (past_key x.key y.key same (ordering_then (text_cmp x.id y.id)
    (ordering_then (text_cmp x.body y.body) Equal))) ∙ h)

module _ (key : RecordName) where
  steps_rise : (x y : AnyFact) → is_of key x ≡ true → is_of key y ≡ true → any_cmp x y ≡ Less
      → is_gt (option_cmp text_cmp (snapshot_id x) (snapshot_id y)) ≡ false
  steps_rise (any.Device x) y p q h = Prim.cc p
  steps_rise (any.Header x) (any.Device y) p q h = Prim.cc q
  steps_rise (any.Header x) (any.Header y) p q h = refl
  steps_rise (any.Header x) (any.Snapshot y) p q h = refl
  steps_rise (any.Snapshot x) (any.Device y) p q h = Prim.cc q
  steps_rise (any.Snapshot x) (any.Header y) p q h =
      let never : Greater ≡ Less = sym (past_key x.key y.key
      (same_name x.key key p ∙ sym (same_name y.key key q)) Greater) ∙ h in
      Prim.cc never
  steps_rise (any.Snapshot x) (any.Snapshot y) p q h =
      ids_rise x y (same_name x.key key p ∙ sym (same_name y.key key q)) h

taken_in_order : (x y : AnyFact) (a b : SnapshotFact) → as_snapshot x ≡ Some a
    → as_snapshot y ≡ Some b → any_cmp x y ≡ Less → snapshot_order a b ≡ Less
taken_in_order (any.Snapshot x) (any.Snapshot y) a b p q h =
    let first : x ≡ a = Prim.cc p in
    let second : y ≡ b = Prim.cc q in
    subst (λ c. snapshot_order c b ≡ Less) first (subst (λ c. snapshot_order x c ≡ Less) second h)
taken_in_order (any.Device x) y a b p q h = Prim.cc p
taken_in_order (any.Header x) y a b p q h = Prim.cc p
taken_in_order (any.Snapshot x) (any.Device y) a b p q h = Prim.cc q
taken_in_order (any.Snapshot x) (any.Header y) a b p q h = Prim.cc q

module _ (facts : List AnyFact) (key : RecordName) where
  module _ (rises : IsStrictlySortedBy any_cmp facts) where
    run_rises : IsStrictlySortedBy any_cmp (run key facts)
    run_rises = IsStrictlySortedBy-filter any_cmp (is_of key) facts rises

    pub rises_by_id : RisesById (run key facts)
    rises_by_id k d low high =
        let x = get_or (run key facts) k d in
        let y = get_or (run key facts) (k + 1) d in
        let own = filter_passes (is_of key) facts in
        let h = steps_rise key x y (own k d (omega arith)) (own (k + 1) d high)
        (Less-from_sorted any_cmp (run key facts) k (k + 1) d run_rises (omega arith) high) in
        ap is_lt ((options_total text_total).antisymm (snapshot_id y) (snapshot_id x))
        ∙ not_before _ h

    snapshots_rise : IsStrictlySortedBy snapshot_order (snapshots (run key facts))
    snapshots_rise =
        rises-filter_map any_cmp snapshot_order as_snapshot taken_in_order (run key facts) run_rises

    key_at : (k : ℕ) (d : SnapshotFact) → k < length (snapshots (run key facts))
        → (get_or (snapshots (run key facts)) k d).key ≡ key
    key_at k d lt = (from_snapshots facts key (get_or (snapshots (run key facts)) k d)
        (Contains-get_or (snapshots (run key facts)) k d lt)).1

    ids_sorted : IsSorted text_cmp (ids (run key facts))
    ids_sorted = sorted-map (λ s. s.id) (λ x y. is_lt (text_cmp x y)) (snapshots (run key facts))
        (λ k d low high.
        let x = get_or (snapshots (run key facts)) k d in
        let y = get_or (snapshots (run key facts)) (k + 1) d in
        let less = Less-from_sorted snapshot_order (snapshots (run key facts)) k (k + 1) d
        snapshots_rise (omega arith) high in
        let h = ids_rise x y (key_at k d (omega arith) ∙ sym (key_at (k + 1) d high)) less in
        ap is_lt (text_total.antisymm y.id x.id) ∙ not_before _ h)

    pub ids_are : snapshot_ids (set_of facts) key ≡ dedup bytes_eq (ids (run key facts))
    ids_are =
        keys_in_order-members text_total text_exact _ _
        (IsStrictlySortedBy-dedup text_total (λ x y. sym (is_eq-slice_cmp x y))
        (ids (run key facts)) ids_sorted)
        (λ id at.
        let found = from_map (λ s. s.id) id (snapshots (run key facts))
        (Contains-from_dedup bytes_eq (ids (run key facts)) id at) in
        (id_under key (set_of facts) id).1 (
          found.0.body,
          subst (λ j. contains (set_of facts)
              (Snapshot key.device key.unique j found.0.body) ≡ true) found.2
              (snapshot_held facts key found.0 found.1),
        ))
        (λ id at.
        let had = (id_under key (set_of facts) id).0 at in
        let found = held_snapshot facts key id had.0 had.1 in
        Contains-dedup nat_list_eq_equiv (λ x y e. (bytes_eq-Decides x y).0 e) (ids (run key facts))
        id
        (subst (Contains (ids (run key facts))) found.2
        (in_map (λ s. s.id) found.0 (snapshots (run key facts)) found.1)))

  -- ---- the snapshots under one id

  module _ (id : List ℕ) where
    pub in_under : (s : SnapshotFact) → Contains (snapshots (run key facts)) s → s.id ≡ id
        → Contains (snapshots (with_id id (run key facts))) s
    in_under s at own =
        let found = from-filter_map as_snapshot (run key facts) s at in
        let here = subst (Contains (run key facts)) (of_snapshot found.0 s found.2) found.1 in
        let same : is_eq (text_cmp s.id id) ≡ true =
        is_eq-slice_cmp s.id id ∙ (bytes_eq-Decides s.id id).1 own in
        Contains-filter_map as_snapshot (with_id id (run key facts)) (any.Snapshot s) s
        (in_filter (λ f. is_eq (id_order id f)) (run key facts) (any.Snapshot s) here same) refl

    pub from_under : (s : SnapshotFact) → Contains (snapshots (with_id id (run key facts))) s
        → Contains (snapshots (run key facts)) s × (s.id ≡ id)
    from_under s at =
        let found = from-filter_map as_snapshot (with_id id (run key facts)) s at in
        let here =
        subst (Contains (with_id id (run key facts))) (of_snapshot found.0 s found.2) found.1 in
        let kept = from_filter (λ f. is_eq (id_order id f)) (run key facts) (any.Snapshot s) here in (
          Contains-filter_map as_snapshot (run key facts) (any.Snapshot s) s kept.0 refl,
          (bytes_eq-Decides s.id id).0 (sym (is_eq-slice_cmp s.id id) ∙ kept.1),
        )

    -- those of one record and id stand by body
    by_body : (x y : SnapshotFact) → (x.key ≡ key) × (x.id ≡ id) → (y.key ≡ key) × (y.id ≡ id)
        → snapshot_order x y ≡ Less → text_cmp x.body y.body ≡ Less
    by_body x y p q h =
        let tie : text_cmp x.id y.id ≡ Equal = (Equal-is (text_cmp x.id y.id)).0
        (is_eq-slice_cmp x.id y.id ∙ (bytes_eq-Decides x.id y.id).1 (p.1 ∙ sym q.1)) in
        sym (then-Equal (text_cmp x.body y.body))
        ∙ (sym (past_key x.key y.key (p.0 ∙ sym q.0)
        (ordering_then (text_cmp x.id y.id) (ordering_then (text_cmp x.body y.body) Equal))
        ∙ ap (λ r. ordering_then r (ordering_then (text_cmp x.body y.body) Equal)) tie) ∙ h)

    pub bodies_rise : IsStrictlySortedBy any_cmp facts
        → IsStrictlySortedBy text_cmp (map (λ s. s.body) (snapshots (with_id id (run key facts))))
    bodies_rise rises =
        rises-map snapshot_order text_cmp (λ s. s.body) (λ s. (s.key ≡ key) × (s.id ≡ id)) by_body
        (snapshots (with_id id (run key facts)))
        (λ s at. let here = from_under s at in ((from_snapshots facts key s here.0).1, here.1))
        (rises-filter_map any_cmp snapshot_order as_snapshot taken_in_order
        (with_id id (run key facts))
        (IsStrictlySortedBy-filter any_cmp (λ f. is_eq (id_order id f)) (run key facts)
        (run_rises rises)))
