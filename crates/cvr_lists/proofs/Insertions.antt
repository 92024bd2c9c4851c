-- Facts put one by one into a list in order, each where a search ends.
use Rattle.std.proofs.Common.{◌≡◌, ℕ, ◌+◌, ◌-◌, ◌<◌, ◌≤◌, true, false, List, [], ◌∷◌, ◌++◌, length}
use Rattle.std.proofs.Common.{map, get_or, Contains, inl, inr, Ordering, Less, Equal, Greater}
use Rattle.std.proofs.Common.{refl, sym, ap, ◌∙◌, subst, arith}
use Rattle.std.specs.Prelude.{not, is_err}
use Rattle.std.specs.declared.result.Result.{Result}
use Rattle.std.specs.declared.result.Result.TheVariants.{Ok, Err}
use Rattle.std.specs.List.{insert}
use Rattle.std.specs.List.Sorted.{IsStrictlySortedBy, IsBinarySearchResult, IsSearchInRange}
use Rattle.std.specs.List.Sorted.{IsPartitionPoint, IsPermutation}
use Rattle.std.specs.Ordering.{ordering_reverse}
use Rattle.std.specs.FinSet.{contains, union, from_list}
use Rattle.std.specs.Cmp.{tied_itself}
use Rattle.std.proofs.lemmas.Bool.{cases_lt}
use Rattle.std.proofs.lemmas.List.{map-append}
use Rattle.std.proofs.lemmas.List.Edits.{length-insert, get_or-insert_below, get_or-insert_at}
use Rattle.std.proofs.lemmas.List.Edits.{get_or-insert_above}
use Rattle.std.proofs.lemmas.List.Elements.{Contains-get_or, Contains-append_left}
use Rattle.std.proofs.lemmas.List.Elements.{Contains-append_right, Contains-append_cases}
use Rattle.std.proofs.lemmas.List.Sorted.{searchable_from_sorted, IsPermutation-insert}
use Rattle.std.proofs.lemmas.List.Sorted.{IsPermutation-append_comm, IsPermutation-trans}
use Rattle.std.proofs.lemmas.List.Sorted.{IsPermutation-sym, Contains-permutation}
use Rattle.std.proofs.lemmas.Map.Keys.{Less-from_sorted, sorted_from_all_adjacent}
use Rattle.cvr_fact_types.specs.Facts.{fact_cmp, fact_total, fact_exact}
use Rattle.cvr_facts.specs.Unions.{union_assoc}
use Rattle.cvr_facts.proofs.Lemmas.{in_map, from_map, in_set, from_set, from_list-append}
use Rattle.cvr_facts.proofs.Lemmas.{IsSorted-strict, none_listed, head_or_tail}
use Rattle.cvr_office.specs.declared.any_fact.AnyFact.{AnyFact}
use Rattle.cvr_office.specs.Place.{fact_of, place_cmp, place_total, place_exact, any_cmp, any_total}
use Rattle.cvr_office.specs.Plain.{set_of, IsPut}
use Rattle.cvr_office.proofs.Lemmas.{set_is, in_union, from_union, less_alone}

-- ---- a fact that is there

greater_equal : (r : Ordering) → r ≡ Greater → r ≡ Equal → ⊥
greater_equal r a b = let both : Greater ≡ Equal = sym a ∙ b in cc

pub search_is : (xs : List AnyFact) (x : AnyFact) (r : Result ℕ ℕ) → IsStrictlySortedBy any_cmp xs
    → IsSearchInRange r (length xs) → IsBinarySearchResult (λ y. any_cmp y x) xs r
    → contains (set_of xs) (fact_of x) ≡ not (is_err r)
search_is xs x (Ok i) rises bound found =
    in_set fact_total fact_exact (map fact_of xs) (fact_of x)
    (subst (Contains (map fact_of xs)) (place_exact (fact_of (get_or xs i x)) (fact_of x) (found x))
    (in_map fact_of (get_or xs i x) xs (Contains-get_or xs i x bound)))
search_is xs x (Err i) rises bound found =
    let parts = found (searchable_from_sorted any_total (λ z. z) xs x
    (IsSorted-strict any_total xs rises)) in
    elim (contains (set_of xs) (fact_of x)) as
    (λ b. contains (set_of xs) (fact_of x) ≡ b → b ≡ false) [
      | true ↦ λ e.
          let y = from_map fact_of (fact_of x) xs
          (from_set fact_total fact_exact (map fact_of xs) (fact_of x) e) in
          let k = y.1.0 in
          let at : get_or xs k y.0 ≡ y.0 = y.1.2 in
          let tie : any_cmp (get_or xs k y.0) x
          ≡ Equal = ap (λ z. place_cmp (fact_of z) (fact_of x)) at
          ∙ (ap (λ f. place_cmp f (fact_of x)) y.2 ∙ tied_itself place_total (fact_of x)) in
          elim (cases_lt k i) [
            | inl below ↦ absurd (less_alone _ (parts.0 k y.0 (omega arith) below) tie)
            | inr above ↦ absurd (greater_equal _ (parts.1 k y.0 above y.1.1) tie)
          ]
      | false ↦ λ e. refl
    ] refl

-- all of a group are there
abbrev pub AreThere : List AnyFact → List AnyFact → Type 0
AreThere xs group = (x : AnyFact) → Contains group x → contains (set_of xs) (fact_of x) ≡ true

-- where all are there, nothing is put in
pub put_none : (xs group : List AnyFact) → IsStrictlySortedBy any_cmp xs → AreThere xs group
    → IsPut xs group xs
put_none xs group rises there = record {
  rises = rises;
  from = λ x at. inl at;
  set = set_is fact_total fact_exact (map fact_of xs) (union (set_of xs) (set_of group))
      (λ k at. in_union fact_total fact_exact (set_of xs) (set_of group) k
      (inl (in_set fact_total fact_exact (map fact_of xs) k at)))
      (λ k h. elim (from_union fact_total fact_exact (set_of xs) (set_of group) k h) [
        | inl a ↦ from_set fact_total fact_exact (map fact_of xs) k a
        | inr b ↦
            let x = from_map fact_of k group
            (from_set fact_total fact_exact (map fact_of group) k b) in
            from_set fact_total fact_exact (map fact_of xs) k
            (subst (λ z. contains (set_of xs) z ≡ true) x.2 (there x.0 x.1))
      ]);
}

pub put_nothing : (xs group : List AnyFact) → IsStrictlySortedBy any_cmp xs → group ≡ []
    → IsPut xs group xs
put_nothing xs group rises none =
    put_none xs group rises (λ x at. absurd (none_listed x (subst (λ ys. Contains ys x) none at)))

pub put_found : (xs : List AnyFact) (x : AnyFact) (i : ℕ) → IsStrictlySortedBy any_cmp xs
    → i < length xs → IsBinarySearchResult (λ y. any_cmp y x) xs (Ok i) → IsPut xs (x ∷ []) xs
put_found xs x i rises within found = put_none xs (x ∷ []) rises (λ y at.
    elim (head_or_tail x y [] at) [
      | inl same ↦ subst (λ z. contains (set_of xs) (fact_of z) ≡ true) same
          (search_is xs x (Ok i) rises within found)
      | inr none ↦ absurd (none_listed y none)
    ])

-- ---- a fact that isn't there

-- the facts of two lists, in order, are one put into the other
pub put_is : (old more new : List AnyFact) → IsStrictlySortedBy any_cmp new
    → IsPermutation (old ++ more) new → IsPut old more new
put_is old more new rises moved =
    let back : (x : AnyFact) → Contains new x → Contains (old ++ more) x =
    λ x at. Contains-permutation new (old ++ more) x (IsPermutation-sym (old ++ more) new moved) at
    in
    let there : (x : AnyFact) → Contains (old ++ more) x → Contains new x =
    λ x at. Contains-permutation (old ++ more) new x moved at in
    record {
      rises = rises;
      from = λ x at. Contains-append_cases old more x (back x at);
      set = same_members old more new back there;
    }
  where
    same_members : (old more new : List AnyFact)
        → ((x : AnyFact) → Contains new x → Contains (old ++ more) x)
        → ((x : AnyFact) → Contains (old ++ more) x → Contains new x)
        → set_of new ≡ union (set_of old) (set_of more)
    same_members old more new back there = set_is fact_total fact_exact (map fact_of new)
        (union (set_of old) (set_of more))
        (λ k at.
        let x = from_map fact_of k new at in
        subst (λ f. contains (union (set_of old) (set_of more)) f ≡ true) x.2
        (in_union fact_total fact_exact (set_of old) (set_of more) (fact_of x.0)
        (elim (Contains-append_cases old more x.0 (back x.0 x.1)) [
          | inl a ↦ inl (in_set fact_total fact_exact (map fact_of old) (fact_of x.0)
              (in_map fact_of x.0 old a))
          | inr b ↦ inr (in_set fact_total fact_exact (map fact_of more) (fact_of x.0)
              (in_map fact_of x.0 more b))
        ])))
        (λ k h. elim (from_union fact_total fact_exact (set_of old) (set_of more) k h) [
          | inl a ↦
              let x = from_map fact_of k old (from_set fact_total fact_exact (map fact_of old) k a)
              in subst (Contains (map fact_of new)) x.2
              (in_map fact_of x.0 new (there x.0 (Contains-append_left old more x.0 x.1)))
          | inr b ↦
              let x = from_map fact_of k more
              (from_set fact_total fact_exact (map fact_of more) k b) in
              subst (Contains (map fact_of new)) x.2
              (in_map fact_of x.0 new (there x.0 (Contains-append_right old more x.0 x.1)))
        ])

turned : (x y : AnyFact) → any_cmp x y ≡ Greater → any_cmp y x ≡ Less
turned x y e = any_total.antisymm y x ∙ ap ordering_reverse e

-- where a search ends without it, it belongs
module _ (old : List AnyFact) (x : AnyFact) (i : ℕ) (rises : IsStrictlySortedBy any_cmp old)
    (within : i ≤ length old)
    (found : IsBinarySearchResult (λ y. any_cmp y x) old (Err i)) where
  abbrev new : List AnyFact
  new = insert old i x

  parts : IsPartitionPoint (λ y. any_cmp y x ≡ Less) (λ y. any_cmp y x ≡ Greater) old i
  parts = found (searchable_from_sorted any_total (λ z. z) old x
      (IsSorted-strict any_total old rises))

  next_above : (k : ℕ) → k + 1 < length new → any_cmp (get_or new k x) (get_or new (k + 1) x) ≡ Less
  next_above k lt =
      let long = length-insert old i x within in
      elim (cases_lt (k + 1) i) [
        | inl below ↦ rw (
          get_or-insert_below old i x x k (omega arith) within,
          get_or-insert_below old i x x (k + 1) below within,
        )
            (Less-from_sorted any_cmp old k (k + 1) x rises (omega arith) (omega arith))
        | inr upon ↦ elim (cases_lt k i) [
          | inl before ↦
              let is : i ≡ k + 1 = omega arith in
              rw (
                get_or-insert_below old i x x k before within,
                ap (λ j. get_or new j x) (sym is) ∙ get_or-insert_at old i x x within,
              )
              (parts.0 k x (omega arith) before)
          | inr from ↦ elim (cases_lt i k) [
            | inl past ↦
                let is : k ≡ k - 1 + 1 = omega arith in
                rw (
                  ap (λ j. get_or new j x) is
                      ∙ get_or-insert_above old i x x (k - 1) (omega arith) within,
                  get_or-insert_above old i x x k (omega arith) within,
                )
                (Less-from_sorted any_cmp old (k - 1) k x rises (omega arith) (omega arith))
            | inr here ↦
                let is : k ≡ i = omega arith in
                rw (
                  ap (λ j. get_or new j x) is ∙ get_or-insert_at old i x x within,
                  get_or-insert_above old i x x k (omega arith) within,
                )
                (turned (get_or old k x) x (parts.1 k x (omega arith) (omega arith)))
          ]
        ]
      ]

  pub put_one : IsPut old (x ∷ []) new
  put_one = put_is old (x ∷ []) new (sorted_from_all_adjacent any_total new x next_above)
      (IsPermutation-trans (old ++ x ∷ []) (x ∷ old) new
      (IsPermutation-append_comm old (x ∷ [])) (IsPermutation-insert old i x))

-- ---- one after the other

pub set_both : (xs ys : List AnyFact) → set_of (xs ++ ys) ≡ union (set_of xs) (set_of ys)
set_both xs ys = ap (from_list {R = fact_cmp}) (map-append fact_of xs ys)
    ∙ from_list-append fact_total fact_exact (map fact_of xs) (map fact_of ys)

pub put_then : (old one two mid both : List AnyFact) → IsPut old one mid → IsPut mid two both
    → IsPut old (one ++ two) both
put_then old one two mid both p q = record {
  rises = q.rises;
  from = λ x at. elim (q.from x at) [
    | inl a ↦ elim (p.from x a) [
      | inl b ↦ inl b
      | inr c ↦ inr (Contains-append_left one two x c)
    ]
    | inr d ↦ inr (Contains-append_right one two x d)
  ];
  set = q.set ∙ (ap (λ s. union s (set_of two)) p.set
      ∙ (union_assoc fact_total fact_exact (set_of old) (set_of one) (set_of two)
      ∙ ap (union (set_of old)) (sym (set_both one two))));
}
