-- All facts of a record, from its run.
use Rattle.std.proofs.Common.{◌≡◌, ℕ, ◌+◌, ◌<◌, arith, true, false, List, [], length, get_or, map}
use Rattle.std.proofs.Common.{Contains, Bor, Some, refl, sym, ap, ◌∙◌, subst}
use Rattle.std.specs.Prelude.{◌==◌, reverse}
use Rattle.std.proofs.lemmas.Bool.{eqb-true, eqb-false}
use Rattle.std.specs.List.{IsDistinct}
use Rattle.std.specs.List.Sorted.{IsStrictlySortedBy, IsSorted}
use Rattle.std.specs.Ordering.{is_lt, eq_by_cmp}
use Rattle.std.specs.FinSet.{contains, items}
use Rattle.std.specs.Cmp.{eq_by_cmp_equiv}
use Rattle.std.proofs.lemmas.List.Elements.{Contains-get_or}
use Rattle.std.proofs.lemmas.List.Sorted.{IsPermutation-map, IsPermutation-sym}
use Rattle.std.proofs.lemmas.List.Sorted.{IsPermutation-reverse, Contains-permutation}
use Rattle.std.proofs.lemmas.Map.Keys.{IsDistinct-from_sorted, IsDistinct-from_apart}
use Rattle.std.proofs.lemmas.Map.Keys.{IsDistinct-IsPermutation, apart_from_distinct}
use Rattle.cdf_parts.specs.Places.{Contest}
use Rattle.cvr_fact_types.specs.declared.name.RecordName.{RecordName}
use Rattle.cvr_fact_types.specs.declared.header.HeaderFact.{HeaderFact}
use Rattle.cvr_fact_types.specs.declared.snapshot.SnapshotFact.{SnapshotFact}
use Rattle.cvr_fact_types.specs.Facts.{Header, Snapshot, text_cmp, fact_total, fact_exact}
use Rattle.cvr_facts.specs.Choosing.{choice_cmp}
use Rattle.cvr_facts.proofs.Lemmas.{tie_is, tie_itself, in_map, from_map, in_set, from_set}
use Rattle.cvr_facts.proofs.Lemmas.{one_listed, Contains-filter_map, from-filter_map}
use Rattle.cvr_facts.proofs.Laws.{text_total, text_exact, choice_total, choice_exact, bodies}
use Rattle.cvr_facts.proofs.Laws.{contains_iff}
use Rattle.cvr_office.specs.declared.any_fact.AnyFact.{AnyFact}
use Rattle.cvr_office.specs.declared.any_fact.AnyFact.TheVariants as any
use Rattle.cvr_office.specs.declared.record_facts.IdFacts.{IdFacts}
use Rattle.cvr_office.specs.declared.record_facts.RecordFacts.{RecordFacts}
use Rattle.cvr_office.specs.Names.{record_of, records}
use Rattle.cvr_office.specs.Place.{fact_of, any_cmp}
use Rattle.cvr_office.specs.Plain.{set_of}
use Rattle.cvr_office.specs.Readers.{header_list, snapshot_list, IsHeaderOf, IsSnapshotOf}
use Rattle.cvr_office.specs.Readers.{AreIdFacts, AreAllFactsOf}
use Rattle.cvr_office.specs.Runs.{is_of, run, headers, snapshots, AreSpelled}
use Rattle.cvr_lists.specs.Groups.{with_id, IsFalling, AreGrouped}
use Rattle.cvr_office.proofs.Lemmas.{keys_in_order-members, from_ordered, in_ordered}
use Rattle.cvr_office.proofs.Lemmas.{rises-distinct, map-map}
use Rattle.cvr_lists.proofs.OneRecord as one
use Rattle.cvr_lists.proofs.RecordGroups.{ids_are, in_under, from_under, bodies_rise}
use Rattle.cvr_office.proofs.Laws.{name_exact}
use Rattle.cvr_office.proofs.Lemmas.{same_name, own_name, from_filter, in_filter, header_held}
use Rattle.cvr_office.proofs.Lemmas.{held_header, from_headers, snapshot_held, held_snapshot}
use Rattle.cvr_office.proofs.Lemmas.{from_snapshots}
use Rattle.cvr_office.proofs.Laws.{header_under, snapshot_under}
use Rattle.cvr_office.proofs.Laws.{name_total}
use Rattle.cvr_office.proofs.Lemmas.{map-reverse, sorted-map}

-- bodies that differ don't tie in the order of choosing
untied : (x y : List ℕ) → eq_by_cmp text_cmp x y ≡ false → eq_by_cmp choice_cmp y x ≡ false
untied x y apart =
    elim (eq_by_cmp choice_cmp y x) as (λ b. eq_by_cmp choice_cmp y x ≡ b → b ≡ false) [
      | true ↦ λ e. sym (tie_itself text_total x y (sym (tie_is choice_exact y x e))) ∙ apart
      | false ↦ λ _. refl
    ] refl

-- ---- of which record a fact is

pub own_record : (key : RecordName) (x : AnyFact) → is_of key x ≡ true
    → record_of (fact_of x) ≡ Some key
own_record key (any.Device d) e = Prim.cc e
own_record key (any.Header h) e = ap Some (same_name h.key key e)
own_record key (any.Snapshot s) e = ap Some (same_name s.key key e)

record_own : (key : RecordName) (x : AnyFact) → record_of (fact_of x) ≡ Some key
    → is_of key x ≡ true
record_own key (any.Device d) e = Prim.cc e
record_own key (any.Header h) e = let same : h.key ≡ key = Prim.cc e in own_name h.key key same
record_own key (any.Snapshot s) e = let same : s.key ≡ key = Prim.cc e in own_name s.key key same

module _ (facts : List AnyFact) (key : RecordName) where
  of_run : (x : AnyFact) → Contains (run key facts) x → Contains (records (set_of facts)) key
  of_run x at =
      let kept = from_filter (is_of key) facts x at in
      let held = in_set fact_total fact_exact (map fact_of facts) (fact_of x)
      (in_map fact_of x facts kept.0) in
      in_ordered name_total name_exact _ key
      (Contains-filter_map record_of (items (set_of facts)) (fact_of x) key
      ((contains_iff (set_of facts) (fact_of x)).0 held) (own_record key x kept.1))

  in_run : Contains (records (set_of facts)) key → (x : AnyFact) × Contains (run key facts) x
  in_run at =
      let found = from-filter_map record_of (items (set_of facts)) key
      (from_ordered name_total name_exact _ key at) in
      let here = from_map fact_of found.0 facts
      (from_set fact_total fact_exact (map fact_of facts) found.0
      ((contains_iff (set_of facts) found.0).1 found.1)) in (
        here.0,
        in_filter (is_of key) facts here.0 here.1
            (record_own key here.0 (ap record_of here.2 ∙ found.2)),
      )

  module _ (found : List AnyFact) (is : found ≡ run key facts) where
    pub no_record : (length found == 0) ≡ true → Contains (records (set_of facts)) key → ⊥
    no_record none at =
        let one = in_run at in
        let some = one.1.1 in
        omega (arith, ap length is, eqb-true (length found) 0 none, some)

    pub some_record : (length found == 0) ≡ false → Contains (records (set_of facts)) key
    some_record some =
        let long : 0 < length (run key facts) =
        omega (arith, ap length is, eqb-false (length found) 0 some) in
        let one = one_listed (run key facts) long in
        of_run one.0 one.1

  pub none_of : run key facts ≡ [] → ¬ Contains (records (set_of facts)) key
  none_of none at = no_record [] (sym none) refl at

  module _ (rises : IsStrictlySortedBy any_cmp facts) where
    -- ---- headers

    headers_are : header_list (set_of facts) key
        ≡ reverse (map (λ h. h.body) (headers (run key facts)))
    headers_are = ap reverse (keys_in_order-members text_total text_exact _ _
        (one.bodies_rise facts key rises)
        (λ b at.
        let found = from_map (λ h. h.body) b (headers (run key facts)) at in
        (header_under key (set_of facts) b).1
        (subst (λ c. contains (set_of facts) (Header key.device key.unique c) ≡ true) found.2
        (header_held facts key found.0 found.1)))
        (λ b at.
        let found = held_header facts key b ((header_under key (set_of facts) b).0 at) in
        subst (Contains (map (λ h. h.body) (headers (run key facts)))) found.2
        (in_map (λ h. h.body) found.0 (headers (run key facts)) found.1)))

    module _ (contests : List Contest) (spelled : AreSpelled contests facts) where
      header_of : (h : HeaderFact) → Contains (reverse (headers (run key facts))) h
          → IsHeaderOf key h
      header_of h at =
          let kept = from_headers facts key h
          (Contains-permutation _ _ h
          (IsPermutation-sym _ _ (IsPermutation-reverse (headers (run key facts)))) at) in
          record { key_is = kept.1; spelled = spelled (any.Header h) kept.0 }

      -- ---- snapshots under one id

      module _ (id : List ℕ) (found : List SnapshotFact)
          (falls : IsFalling (snapshots (with_id id (run key facts))) found) where
        given : (s : SnapshotFact) → Contains falls.rising s
            → Contains (snapshots (with_id id (run key facts))) s
        given s at = Contains-permutation _ _ s (IsPermutation-sym _ _ falls.same) at

        snapshot_of : (s : SnapshotFact) → Contains falls.rising s → IsSnapshotOf contests key s
        snapshot_of s at =
            let kept = from_snapshots facts key s (from_under facts key id s (given s at)).0 in
            record { key_is = kept.1; spelled = spelled (any.Snapshot s) kept.0 }

        sorted : IsSorted choice_cmp (map (λ s. s.body) falls.rising)
        sorted =
            sorted-map (λ s. s.body) (λ x y. is_lt (choice_cmp x y)) falls.rising (λ k d low high.
            let x = get_or falls.rising k d in
            let y = get_or falls.rising (k + 1) d in
            let of_x = snapshot_of x (Contains-get_or falls.rising k d (omega arith)) in
            let of_y = snapshot_of y (Contains-get_or falls.rising (k + 1) d high) in
            ap is_lt (sym (bodies contests y x of_y.spelled of_x.spelled))
            ∙ falls.sorted k d low high)

        apart : IsDistinct (eq_by_cmp text_cmp) (map (λ s. s.body) falls.rising)
        apart =
            IsDistinct-IsPermutation (eq_by_cmp text_cmp)
            (λ x y. (eq_by_cmp_equiv text_total).symm x y) _ _
            (IsPermutation-map (λ s. s.body) _ _ falls.same)
            (IsDistinct-from_sorted text_cmp _ (bodies_rise facts key id rises))

        chosen_rise : IsStrictlySortedBy choice_cmp (map (λ s. s.body) falls.rising)
        chosen_rise = rises-distinct choice_total _ sorted
            (IsDistinct-from_apart _ _ (λ i j d lt far.
            untied _ _ (apart_from_distinct (eq_by_cmp text_cmp) _ i j d apart lt far)))

        snapshots_are : snapshot_list (set_of facts) key id ≡ map (λ s. s.body) found
        snapshots_are =
            ap reverse (keys_in_order-members choice_total choice_exact _ _ chosen_rise
            (λ b at.
            let one = from_map (λ s. s.body) b falls.rising at in
            let here = from_under facts key id one.0 (given one.0 one.1) in
            let held = subst (λ j. contains (set_of facts)
            (Snapshot key.device key.unique j one.0.body) ≡ true) here.1
            (snapshot_held facts key one.0 here.0) in
            (snapshot_under key (set_of facts) id b).1
            (subst (λ c. contains (set_of facts) (Snapshot key.device key.unique id c) ≡ true)
            one.2 held))
            (λ b at.
            let one =
            held_snapshot facts key id b ((snapshot_under key (set_of facts) id b).0 at) in
            let here = Contains-permutation _ _ one.0 falls.same
            (in_under facts key id one.0 one.1 one.2) in
            subst (Contains (map (λ s. s.body) falls.rising)) one.3
            (in_map (λ s. s.body) one.0 falls.rising here)))
            ∙ (sym (map-reverse (λ s. s.body) falls.rising) ∙ ap (map (λ s. s.body)) (sym falls.is))

        typed_in : (s : SnapshotFact) → Contains found s → IsSnapshotOf contests key s
        typed_in s at =
            snapshot_of s (Contains-permutation _ _ s
            (IsPermutation-sym _ _ (IsPermutation-reverse falls.rising))
            (subst (λ xs. Contains xs s) falls.is at))

      -- ---- all of them

      id_facts : (i : IdFacts) → IsFalling (snapshots (with_id i.id.now (run key facts)))
          (map (λ s. s.now) i.snapshots.items) → AreIdFacts contests (set_of facts) key i
      id_facts i falls = record {
        bodies = map-map (λ (s : Bor SnapshotFact). s.now) (λ s. s.body) i.snapshots.items
            ∙ sym (snapshots_are i.id.now _ falls);
        typed = typed_in i.id.now _ falls;
      }

      pub facts_are : (found : RecordFacts)
          → map (λ h. h.now) found.headers.items ≡ reverse (headers (run key facts))
          → AreGrouped (run key facts) found.ids.items
          → AreAllFactsOf contests (set_of facts) key found
      facts_are found is groups = record {
        bodies =
            map-map (λ (h : Bor HeaderFact). h.now) (λ h. h.body) found.headers.items
            ∙ (ap (map (λ h. h.body)) is
            ∙ (map-reverse (λ h. h.body) (headers (run key facts)) ∙ sym headers_are));
        typed = λ h at. header_of h (subst (λ hs. Contains hs h) is at);
        ids = groups.ids_are ∙ sym (ids_are facts key rises);
        snapshots = λ i at. id_facts i (groups.each i at);
      }
