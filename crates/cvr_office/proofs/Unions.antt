-- The union over the members of a set.
use Rattle.std.proofs.Common.{◌≡◌, Bool, true, false, ◌||◌, inl, inr, List, [], ◌∷◌, sym}
use Rattle.std.proofs.Common.{ap, ◌∙◌, subst}
use Rattle.std.proofs.lemmas.Bool.{false≢true, or_cases, or_left, or_right}
use Rattle.std.proofs.Math.Bool.{or_self}
use Rattle.std.specs.List.{list_any}
use Rattle.std.specs.declared.cmp.Ordering.{Ordering}
use Rattle.std.specs.Ordering.{eq_by_cmp}
use Rattle.std.specs.Cmp.{IsTotalOrder, both_ways, Equal-is, tied_itself}
use Rattle.std.specs.FinSet.{FinSet, union, empty, insert, from_list, items, contains, same_set}
use Rattle.std.specs.FinSet.{contains-union, contains-empty, contains-insert, contains-items}
use Rattle.std.specs.FinMap.{IsAntisymmetric}
use Rattle.cvr_fact_types.specs.Facts.{Fact, Facts, fact_cmp, fact_total, fact_exact}
use Rattle.cvr_office.specs.Reach.{union_over}

-- the facts of a union over a list
pub contains-union_over : {X : Type 0} (f : X → Facts) (xs : List X) (q : Fact)
    → contains (union_over f xs) q ≡ list_any (λ x. contains (f x) q) xs
contains-union_over f [] q = contains-empty fact_cmp q
contains-union_over f (x ∷ xs) q = contains-union fact_total (f x) (union_over f xs) q
    ∙ ap (λ b. contains (f x) q || b) (contains-union_over f xs q)

module _ {K : Type 0} {R : K → K → Ordering} (t : IsTotalOrder R) (e : IsAntisymmetric R) where
  pub tie_is : (x y : K) → eq_by_cmp R x y ≡ true → x ≡ y
  tie_is x y h = e x y ((Equal-is (R x y)).0 h)

  pub tie_itself : (x : K) → eq_by_cmp R x x ≡ true
  tie_itself x = (Equal-is (R x x)).1 (tied_itself t x)

  -- a member that passes
  pub one_that_passes : (p : K → Bool) (xs : List K) → list_any p xs ≡ true
      → (x : K) × (list_any (eq_by_cmp R x) xs ≡ true) × (p x ≡ true)
  one_that_passes p [] h = absurd (false≢true h)
  one_that_passes p (x ∷ xs) h =
      elim (or_cases (p x) (list_any p xs) h) [
        | inl px ↦ (x, or_left _ _ (tie_itself x), px)
        | inr rest ↦ let w = one_that_passes p xs rest in (w.0, or_right _ _ w.1, w.2)
      ]

  pub passes_by : (p : K → Bool) (x : K) (xs : List K) → list_any (eq_by_cmp R x) xs ≡ true
      → p x ≡ true → list_any p xs ≡ true
  passes_by p x [] h px = absurd (false≢true h)
  passes_by p x (y ∷ ys) h px =
      elim (or_cases (eq_by_cmp R x y) (list_any (eq_by_cmp R x) ys) h) [
        | inl same ↦ or_left _ _ (subst (λ z. p z ≡ true) (tie_is x y same) px)
        | inr rest ↦ or_right (p y) _ (passes_by p x ys rest px)
      ]

  -- the same of a set's members
  pub member_that_passes : (p : K → Bool) (s : FinSet R) → list_any p (items s) ≡ true
      → (x : K) × (contains s x ≡ true) × (p x ≡ true)
  member_that_passes p s h =
      let w = one_that_passes p (items s) h in (w.0, contains-items s w.0 ∙ w.1, w.2)

  pub passes_by_member : (p : K → Bool) (x : K) (s : FinSet R) → contains s x ≡ true → p x ≡ true
      → list_any p (items s) ≡ true
  passes_by_member p x s h px = passes_by p x (items s) (sym (contains-items s x) ∙ h) px

  pub any_union : (p : K → Bool) (s u : FinSet R)
      → list_any p (items (union s u)) ≡ (list_any p (items s) || list_any p (items u))
  any_union p s u = both_ways _ _
      (λ h. let w = member_that_passes p (union s u) h in
      elim (or_cases (contains s w.0) (contains u w.0) (sym (contains-union t s u w.0) ∙ w.1)) [
        | inl a ↦ or_left _ _ (passes_by_member p w.0 s a w.2)
        | inr b ↦ or_right _ _ (passes_by_member p w.0 u b w.2)
      ])
      (λ h. elim (or_cases (list_any p (items s)) (list_any p (items u)) h) [
        | inl a ↦ let w = member_that_passes p s a in
            passes_by_member p w.0 (union s u) (contains-union t s u w.0 ∙ or_left _ _ w.1) w.2
        | inr b ↦ let w = member_that_passes p u b in
            passes_by_member p w.0 (union s u)
            (contains-union t s u w.0 ∙ or_right (contains s w.0) _ w.1) w.2
      ])

  pub any_insert : (p : K → Bool) (s : FinSet R) (k : K)
      → list_any p (items (insert s k)) ≡ (list_any p (items s) || p k)
  any_insert p s k = both_ways _ _
      (λ h. let w = member_that_passes p (insert s k) h in
      elim (or_cases (eq_by_cmp R w.0 k) (contains s w.0) (sym (contains-insert t s k w.0) ∙ w.1)) [
        | inl a ↦ or_right (list_any p (items s)) _ (subst (λ z. p z ≡ true) (tie_is w.0 k a) w.2)
        | inr b ↦ or_left _ _ (passes_by_member p w.0 s b w.2)
      ])
      (λ h. elim (or_cases (list_any p (items s)) (p k) h) [
        | inl a ↦ let w = member_that_passes p s a in
            passes_by_member p w.0 (insert s k)
            (contains-insert t s k w.0 ∙ or_right (eq_by_cmp R w.0 k) _ w.1) w.2
        | inr b ↦ passes_by_member p k (insert s k)
            (contains-insert t s k k ∙ or_left _ _ (tie_itself k)) b
      ])

  pub any_empty : (p : K → Bool) → list_any p (items (empty {R = R})) ≡ false
  any_empty p = both_ways _ _ (λ h. let w = member_that_passes p empty h in
      absurd (false≢true (sym (contains-empty R w.0) ∙ w.1))) (λ h. absurd (false≢true h))

  pub over_union : (f : K → Facts) (s u : FinSet R)
      → union_over f (items (union s u)) ≡ union (union_over f (items s)) (union_over f (items u))
  over_union f s u = same_set fact_total fact_exact _ _ (λ q.
      contains-union_over f (items (union s u)) q
      ∙ (any_union (λ x. contains (f x) q) s u
      ∙ ((λ i. sym (contains-union_over f (items s) q) i
      || sym (contains-union_over f (items u) q) i)
      ∙ sym (contains-union fact_total (union_over f (items s)) (union_over f (items u)) q))))

  pub over_insert : (f : K → Facts) (s : FinSet R) (k : K)
      → union_over f (items (insert s k)) ≡ union (union_over f (items s)) (f k)
  over_insert f s k = same_set fact_total fact_exact _ _ (λ q.
      contains-union_over f (items (insert s k)) q
      ∙ (any_insert (λ x. contains (f x) q) s k
      ∙ (ap (λ b. b || contains (f k) q) (sym (contains-union_over f (items s) q))
      ∙ sym (contains-union fact_total (union_over f (items s)) (f k) q))))

  pub over_one : (f : K → Facts) (k : K) → union_over f (items (from_list {R = R} (k ∷ []))) ≡ f k
  over_one f k = same_set fact_total fact_exact _ _ (λ q.
      contains-union_over f (items (from_list (k ∷ []))) q
      ∙ (any_insert (λ x. contains (f x) q) empty k
      ∙ ap (λ b. b || contains (f k) q) (any_empty (λ x. contains (f x) q))))

pub union_same : (s : Facts) → union s s ≡ s
union_same s = same_set fact_total fact_exact _ _
    (λ q. contains-union fact_total s s q ∙ or_self (contains s q))
