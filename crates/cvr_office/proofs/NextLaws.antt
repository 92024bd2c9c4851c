-- The next name is the least above the given one.
use Rattle.std.proofs.Common.{◌≡◌, ◌≢◌, Bool, true, false, cond, List, [], ◌∷◌, Option, Some, None}
use Rattle.std.proofs.Common.{Ordering, Less, Greater, is_lt, is_gt, inl, inr, refl, sym, ap}
use Rattle.std.proofs.Common.{◌∙◌, subst, true≢false, arith}
use Rattle.std.specs.List.{find, filter_map}
use Rattle.std.specs.List.Sorted.{IsStrictlySortedBy}
use Rattle.std.specs.Ordering.{ordering_reverse}
use Rattle.std.specs.Cmp.{IsTotalOrder, tied_itself}
use Rattle.std.specs.FinMap.{IsAntisymmetric}
use Rattle.std.specs.FinSet.{items}
use Rattle.std.proofs.lemmas.Map.Keys.{sorted_tail}
use Rattle.cvr_fact_types.specs.Facts.{Fact, Facts}
use Rattle.cvr_facts.specs.Ordered.{keys_in_order}
use Rattle.cvr_facts.proofs.Lemmas.{none_listed, at_head, at_tail, head_or_tail, ordered_rises}
use Rattle.cvr_facts.proofs.Lemmas.{Contains-filter_map, from-filter_map}
use Rattle.cvr_facts.proofs.Laws.{contains_iff}
use Rattle.cvr_office.specs.Readers.{next}
use Rattle.cvr_office.specs.Laws.{ListedLaw, IsAbove, NextLaw, NoNextLaw}
use Rattle.cvr_office.proofs.InOrder.{in_ordered, from_ordered}
use Rattle.cvr_office.proofs.Firsts.{each_above, IsFirst, find_is, is_above, next-find}

-- ---- the first that passes is the least that does

module _ {K : Type 0} {R : K → K → Ordering} (t : IsTotalOrder R) (p : K → Bool) where
  not_below : (x y : K) → R x y ≡ Less → is_lt (R y x) ≡ false
  not_below x y less = ap is_lt (t.antisymm y x) ∙ ap (λ o. is_lt (ordering_reverse o)) less

  here : (x : K) (ks : List K) → IsStrictlySortedBy R (x ∷ ks) → p x ≡ true
      → IsFirst R p (x ∷ ks) (Some x)
  here x ks rises passes = (
    at_head x ks,
    passes,
    λ y at good. elim (head_or_tail x y ks at) [
      | inl is ↦ subst (λ z. is_lt (R z x) ≡ false) is (ap is_lt (tied_itself t x))
      | inr later ↦ not_below x y (each_above R x ks y rises later)
    ],
  )

  later : (x : K) (ks : List K) → p x ≡ false → (r : Option K) → IsFirst R p ks r
      → IsFirst R p (x ∷ ks) r
  later x ks fails None none = λ k at. elim (head_or_tail x k ks at)
      [ inl is ↦ ap p (sym is) ∙ fails | inr rest ↦ none k rest ]
  later x ks fails (Some k) (at, ok, least) = (
    at_tail x k ks at,
    ok,
    λ y among good. elim (head_or_tail x y ks among) [
      | inl is ↦ absurd (true≢false (sym good ∙ (ap p (sym is) ∙ fails)))
      | inr rest ↦ least y rest good
    ],
  )

  found_first : (ks : List K) → IsStrictlySortedBy R ks → IsFirst R p ks (find p ks)
  found_first [] rises = λ k at. absurd (none_listed k at)
  found_first (x ∷ ks) rises =
      elim (p x) as (λ b. p x ≡ b → IsFirst R p (x ∷ ks) (cond b (Some x) (find p ks))) [
        | true ↦ λ passes. here x ks rises passes
        | false ↦ λ fails. later x ks fails (find p ks) (found_first ks (sorted_tail R x ks rises))
      ] refl

-- ---- above

gt_is : (o : Ordering) → is_gt o ≡ true → o ≡ Greater
gt_is o h = grind arith

not_lt : (o : Ordering) → o ≢ Less → is_lt o ≡ false
not_lt o other = grind arith

module _ {K : Type 0} (R : K → K → Ordering) where
  above_is : (after : Option K) (k : K) → is_above R after k ≡ true → IsAbove R after k
  above_is None k h = tt
  above_is (Some given) k h = gt_is (R k given) h

  is_above_of : (after : Option K) (k : K) → IsAbove R after k → is_above R after k ≡ true
  is_above_of None k h = refl
  is_above_of (Some given) k h = ap is_gt h

  not_above : (after : Option K) (k : K) → ¬ IsAbove R after k → is_above R after k ≡ false
  not_above after k never =
      elim (is_above R after k) as (λ b. is_above R after k ≡ b → b ≡ false)
      [ true ↦ λ is. absurd (never (above_is after k is)) | false ↦ λ _. refl ] refl

-- ---- the laws

module _ {K : Type 0} {R : K → K → Ordering} (t : IsTotalOrder R) (e : IsAntisymmetric R)
    (stated : Fact → Option K) where
  -- what the facts give, in order
  abbrev list : Facts → List K
  list s = keys_in_order R (filter_map stated (items s))

  pub listed : ListedLaw stated list
  listed s k = (
    λ at. let f = from-filter_map stated (items s) k
        (from_ordered t e (filter_map stated (items s)) k at) in
        (f.0, (contains_iff s f.0).1 f.1, f.2),
    λ h. in_ordered t e (filter_map stated (items s)) k
        (Contains-filter_map stated (items s) h.0 k ((contains_iff s h.0).0 h.1) h.2),
  )

  rises : (s : Facts) → IsStrictlySortedBy R (list s)
  rises s = ordered_rises R (filter_map stated (items s))

  first_is : (s : Facts) (after r : Option K) → IsFirst R (is_above R after) (list s) r
      → next R (list s) after ≡ r
  first_is s after r first =
      next-find R (list s) after ∙ find_is R (is_above R after) (list s) (rises s) r first

  is_first : (s : Facts) (after r : Option K) → next R (list s) after ≡ r
      → IsFirst R (is_above R after) (list s) r
  is_first s after r is = subst (IsFirst R (is_above R after) (list s))
      (sym (next-find R (list s) after) ∙ is) (found_first t (is_above R after) (list s) (rises s))

  pub next_is_least : NextLaw R list
  next_is_least s after k = (
    λ is. let first = is_first s after (Some k) is in record {
      listed = first.0;
      above = above_is R after k first.1;
      least = λ other at above less. true≢false
          (ap is_lt (sym less) ∙ first.2 other at (is_above_of R after other above));
    },
    λ h. first_is s after (Some k) (
      h.listed,
      is_above_of R after k h.above,
      λ y at above.
          not_lt (R y k) (h.least y at (above_is R after y above)),
    ),
  )

  pub no_next : NoNextLaw R list
  no_next s after = (
    λ none k at above. true≢false (sym (is_above_of R after k above)
        ∙ is_first s after None none k at),
    λ never. first_is s after None (λ k at. not_above R after k (never k at)),
  )
