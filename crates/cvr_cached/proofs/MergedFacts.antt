-- Facts in order put among others in order, of which none is like one of them.
use Rattle.std.proofs.Common.{◌≡◌, ℕ, zero, suc, ◌+◌, ◌≤◌, true, false, List, [], ◌∷◌, ◌++◌}
use Rattle.std.proofs.Common.{length, take, drop, get_or, Contains, Less, Equal, Greater, inl, inr}
use Rattle.std.proofs.Common.{Bool, Ordering, refl, sym, ap, ◌∙◌, subst, arith}
use Rattle.std.specs.Prelude.{not, ◌⊎◌}
use Rattle.std.specs.List.{filter}
use Rattle.std.specs.List.Sorted.{IsStrictlySortedBy, IsPartitionedBy, IsPartitionPoint}
use Rattle.std.specs.List.Sorted.{IsPermutation}
use Rattle.std.specs.Cmp.{both_ways}
use Rattle.std.specs.FinSet.{contains, same_set}
use Rattle.std.specs.Ordering.{is_lt, ordering_reverse}
use Rattle.std.proofs.lemmas.Bool.{false≢true, cases_lt}
use Rattle.std.proofs.lemmas.List.{append_assoc, append-nil, length-append}
use Rattle.std.proofs.lemmas.List.Elements.{Contains-append_cases}
use Rattle.std.proofs.lemmas.List.Kept.{IsStrictlySortedBy-filter}
use Rattle.std.proofs.lemmas.List.Sorted.{IsPermutation-refl, IsPermutation-trans}
use Rattle.std.proofs.lemmas.List.Sorted.{IsPermutation-sym, IsPermutation-append_left}
use Rattle.std.proofs.lemmas.List.Sorted.{IsPermutation-append_right, IsPermutation-middle}
use Rattle.std.proofs.lemmas.List.Sorted.{IsPermutation-cons, IsPermutation-filter_both}
use Rattle.std.proofs.lemmas.List.Sorted.{Contains-permutation, length_permutation}
use Rattle.std.proofs.lemmas.Map.Keys.{sorted_head, sorted_tail, Less-from_sorted}
use Rattle.cvr_fact_types.specs.Facts.{fact_total, fact_exact}
use Rattle.cvr_facts.proofs.Lemmas.{at_head, at_tail, head_or_tail}
use Rattle.cvr_office.specs.declared.any_fact.AnyFact.{AnyFact}
use Rattle.cvr_office.specs.Place.{fact_of, any_cmp, any_total, place_exact}
use Rattle.cvr_office.specs.Plain.{set_of, IsPut}
use Rattle.cvr_office.proofs.Lemmas.{from_filter, each_of}
use Rattle.cvr_lists.proofs.Lemmas.{set_both, all_of}
use Rattle.cvr_cached.specs.Fresh.{AreApart}
use Rattle.cvr_cached.specs.Merged.{is_before, merged}
use Rattle.cvr_cached.proofs.FreshFacts.{alike_in, alike_from}
use Rattle.cvr_cached.proofs.Listed.{sorted_append, sorted_cons}

-- ---- the same facts

pub merged_moved : (xs facts : List AnyFact) → IsPermutation (facts ++ xs) (merged facts xs)
merged_moved [] facts =
    subst (λ l. IsPermutation l facts) (sym (append-nil facts)) (IsPermutation-refl facts)
merged_moved (x ∷ xs) facts =
    let low = filter (is_before x) facts in
    let high = filter (λ y. not (is_before x y)) facts in
    let split = IsPermutation-append_left (x ∷ xs) facts (low ++ high)
    (IsPermutation-filter_both (is_before x) (λ y. not (is_before x y)) (λ y. refl) facts) in
    let rest = IsPermutation-trans (high ++ x ∷ xs) (x ∷ (high ++ xs)) (x ∷ merged high xs)
    (IsPermutation-middle high x xs)
    (IsPermutation-cons x (high ++ xs) (merged high xs) (merged_moved xs high)) in
    IsPermutation-trans (facts ++ x ∷ xs) ((low ++ high) ++ x ∷ xs) (low ++ x ∷ merged high xs)
    split
    (subst (λ l. IsPermutation l (low ++ x ∷ merged high xs)) (sym (append_assoc low high (x ∷ xs)))
    (IsPermutation-append_right low (high ++ x ∷ xs) (x ∷ merged high xs) rest))

pub length-merged : (facts xs : List AnyFact) → length (merged facts xs) ≡ length facts + length xs
length-merged facts xs =
    length_permutation (facts ++ xs) (merged facts xs) (merged_moved xs facts)
    ∙ length-append facts xs

merged_from : (facts xs : List AnyFact) (y : AnyFact) → Contains (merged facts xs) y
    → Contains facts y ⊎ Contains xs y
merged_from facts xs y at = Contains-append_cases facts xs y
    (Contains-permutation (merged facts xs) (facts ++ xs) y
    (IsPermutation-sym (facts ++ xs) (merged facts xs) (merged_moved xs facts)) at)

-- ---- in order

before : (r : Ordering) → is_lt r ≡ true → r ≡ Less
before r h = grind arith

behind : (r : Ordering) → not (is_lt r) ≡ true → (r ≡ Equal → ⊥) → ordering_reverse r ≡ Less
behind Less h k = Prim.cc h
behind Equal h k = absurd (k refl)
behind Greater h k = refl

abbrev NoTies : List AnyFact → List AnyFact → Type 0
NoTies facts xs =
    (y z : AnyFact) → Contains facts y → Contains xs z → any_cmp y z ≡ Equal → ⊥

no_ties : (facts xs : List AnyFact) → AreApart facts xs → NoTies facts xs
no_ties facts xs apart y z a b same = false≢true (sym (apart z b)
    ∙ subst (λ f. contains (set_of facts) f ≡ true) (place_exact (fact_of y) (fact_of z) same)
    (alike_in facts y a))

rising : (xs facts : List AnyFact) → IsStrictlySortedBy any_cmp facts
    → IsStrictlySortedBy any_cmp xs → NoTies facts xs
    → IsStrictlySortedBy any_cmp (merged facts xs)
rising [] facts a b apart = a
rising (x ∷ xs) facts a b apart =
    let up = λ (y : AnyFact). not (is_before x y) in
    let low = filter (is_before x) facts in
    let high = filter up facts in
    let past : (y : AnyFact) → Contains (merged high xs) y → any_cmp x y ≡ Less = λ y at.
    elim (merged_from high xs y at) [
      | inl from ↦
          let kept = from_filter up facts y from in
          any_total.antisymm x y
          ∙ behind (any_cmp y x) kept.1 (apart y x kept.0 (at_head x xs))
      | inr from ↦
          each_of (λ z. any_cmp x z ≡ Less) xs y (sorted_head any_cmp x xs b) from
    ] in
    sorted_append any_cmp low (x ∷ merged high xs)
    (IsStrictlySortedBy-filter any_cmp (is_before x) facts a)
    (sorted_cons any_cmp x (merged high xs)
    (all_of (λ y. any_cmp x y ≡ Less) (merged high xs) past)
    (rising xs high (IsStrictlySortedBy-filter any_cmp up facts a)
    (sorted_tail any_cmp x xs b)
    (λ y z p q. apart y z (from_filter up facts y p).0 (at_tail x z xs q))))
    (λ y z l r.
    let low_is = before (any_cmp y x) (from_filter (is_before x) facts y l).1 in
    elim (head_or_tail x z (merged high xs) r) [
      | inl is ↦ subst (λ w. any_cmp y w ≡ Less) is low_is
      | inr more ↦ any_total.trans y x z low_is (past z more)
    ])

-- the facts of both, in order
pub merged_put : (facts xs : List AnyFact) → IsStrictlySortedBy any_cmp facts
    → IsStrictlySortedBy any_cmp xs → AreApart facts xs → IsPut facts xs (merged facts xs)
merged_put facts xs a b apart = record {
  rises = rising xs facts a b (no_ties facts xs apart);
  from = merged_from facts xs;
  set = same_set fact_total fact_exact (set_of (merged facts xs)) (set_of (facts ++ xs))
      (λ q. both_ways _ _
      (λ h. let y = alike_from (merged facts xs) q h in
      subst (λ f. contains (set_of (facts ++ xs)) f ≡ true) y.2 (alike_in (facts ++ xs) y.0
      (Contains-permutation (merged facts xs) (facts ++ xs) y.0
      (IsPermutation-sym (facts ++ xs) (merged facts xs) (merged_moved xs facts)) y.1)))
      (λ h. let y = alike_from (facts ++ xs) q h in
      subst (λ f. contains (set_of (merged facts xs)) f ≡ true) y.2 (alike_in (merged facts xs) y.0
      (Contains-permutation (facts ++ xs) (merged facts xs) y.0 (merged_moved xs facts) y.1))))
      ∙ set_both facts xs;
}

-- ---- a search for where one of them belongs

pub lead : (x : AnyFact) (facts : List AnyFact) → IsStrictlySortedBy any_cmp facts
    → IsPartitionedBy (is_before x) facts
lead x facts rises i j d le lt h = elim (cases_lt i j) [
  | inl below ↦ ap is_lt (any_total.trans (get_or facts i d) (get_or facts j d) x
      (Less-from_sorted any_cmp facts i j d rises below lt)
      (before (any_cmp (get_or facts j d) x) h))
  | inr from ↦ subst (λ k. is_before x (get_or facts k d) ≡ true)
      (let is : j ≡ i = omega (arith, le, from) in is) h
]

split : (p : AnyFact → Bool) (facts : List AnyFact) (n : ℕ) → n ≤ length facts
    → IsPartitionPoint (λ y. p y ≡ true) (λ y. p y ≡ false) facts n
    → (filter p facts ≡ take n facts) × (filter (λ y. not (p y)) facts ≡ drop n facts)
split p [] zero le point = (refl, refl)
split p [] (suc n) le point = absurd (omega (arith, le))
split p (y ∷ ys) zero le point =
    let rest = split p ys zero (omega arith) (
      (λ i d _ lt. absurd (omega (arith, lt))),
      (λ i d _ lt. point.1 (suc i) d (omega arith)
          (omega (arith, lt))),
    ) in
    rw (point.1 0 y (omega arith) (omega arith)) (rest.0, ap (λ zs. y ∷ zs) rest.1)
split p (y ∷ ys) (suc n) le point =
    let rest = split p ys n (omega (arith, le)) (
      (λ i d _ lt. point.0 (suc i) d (omega arith) (omega (arith, lt))),
      (λ i d ge lt. point.1 (suc i) d (omega (arith, ge)) (omega (arith, lt))),
    ) in
    rw (point.0 0 y (omega arith) (omega arith)) (ap (λ zs. y ∷ zs) rest.0, rest.1)

pub drop_rises : (facts : List AnyFact) (x : AnyFact) (n : ℕ) → n ≤ length facts
    → IsPartitionPoint (λ y. is_before x y ≡ true) (λ y. is_before x y ≡ false) facts n
    → IsStrictlySortedBy any_cmp facts → IsStrictlySortedBy any_cmp (drop n facts)
drop_rises facts x n le point rises =
    subst (IsStrictlySortedBy any_cmp) (split (is_before x) facts n le point).1
    (IsStrictlySortedBy-filter any_cmp (λ y. not (is_before x y)) facts rises)

merged_at : (facts xs : List AnyFact) (x : AnyFact) (n : ℕ) → n ≤ length facts
    → IsPartitionPoint (λ y. is_before x y ≡ true) (λ y. is_before x y ≡ false) facts n
    → merged facts (x ∷ xs) ≡ take n facts ++ x ∷ merged (drop n facts) xs
merged_at facts xs x n le point =
    let parts = split (is_before x) facts n le point in
    λ i. parts.0 i ++ x ∷ merged (parts.1 i) xs

-- those before it are moved behind a list, and then it
pub merged_on : (list facts xs : List AnyFact) (x : AnyFact) (n : ℕ) → n ≤ length facts
    → IsPartitionPoint (λ y. is_before x y ≡ true) (λ y. is_before x y ≡ false) facts n
    → ((list ++ take n facts) ++ x ∷ []) ++ merged (drop n facts) xs
    ≡ list ++ merged facts (x ∷ xs)
merged_on list facts xs x n le point =
    append_assoc (list ++ take n facts) (x ∷ []) (merged (drop n facts) xs)
    ∙ (append_assoc list (take n facts) (x ∷ merged (drop n facts) xs)
    ∙ ap (λ ys. list ++ ys) (sym (merged_at facts xs x n le point)))
