-- A walk up a rising list: from each to the next above it.
use Rattle.std.proofs.Common.{◌≡◌, List, [], ◌∷◌, Bool, true, false, cond, Option, Some, None}
use Rattle.std.proofs.Common.{IfSome, Contains, inl, inr, Ordering, Less, Greater, refl, sym, ap}
use Rattle.std.proofs.Common.{◌∙◌, subst}
use Rattle.std.specs.Prelude.{find}
use Rattle.std.specs.List.{AllByRecursion}
use Rattle.std.specs.List.Sorted.{IsStrictlySortedBy}
use Rattle.std.specs.Ordering.{is_lt, is_gt, ordering_reverse}
use Rattle.std.specs.Cmp.{IsTotalOrder, tied_itself}
use Rattle.std.proofs.lemmas.Map.Keys.{sorted_head, sorted_tail}
use Rattle.cvr_facts.proofs.Lemmas.{none_listed, at_head, at_tail, head_or_tail}
use Rattle.cvr_office.specs.Readers.{next}
use Rattle.cvr_office.proofs.Rising.{each_of}

module _ {K : Type 0} (R : K → K → Ordering) where
  -- the list from a given one on, nothing where none is given
  abbrev pub from : Option K → List K → List K
  from None ks = []
  from (Some k) [] = []
  from (Some k) (x ∷ xs) = cond (is_lt (R x k)) (from (Some k) xs) (x ∷ xs)

  -- ---- what is found is listed

  found_at : (b : Bool) (x : K) (xs : List K) (o : Option K) → IfSome o (Contains xs)
      → IfSome (cond b (Some x) o) (Contains (x ∷ xs))
  found_at true x xs o h = at_head x xs
  found_at false x xs None h = tt
  found_at false x xs (Some y) h = at_tail x y xs h

  found_listed : (p : K → Bool) (xs : List K) → IfSome (find p xs) (Contains xs)
  found_listed p [] = tt
  found_listed p (x ∷ xs) = found_at (p x) x xs (find p xs) (found_listed p xs)

  pub next_listed : (ks : List K) (o : Option K) → IfSome (next R ks o) (Contains ks)
  next_listed ks None = found_listed (λ _. true) ks
  next_listed ks (Some key) = found_listed (λ k. is_gt (R k key)) ks

  module _ (t : IsTotalOrder R) where
    greater : (x y : K) → R x y ≡ Less → R y x ≡ Greater
    greater x y h = t.antisymm y x ∙ ap ordering_reverse h

    from_head : (x : K) (xs : List K) → from (Some x) (x ∷ xs) ≡ x ∷ xs
    from_head x xs = rw (tied_itself t x) refl

    past_head : (x : K) (xs : List K) (o : Option K) → AllByRecursion (λ y. R x y ≡ Less) xs
        → IfSome o (Contains xs) → from o (x ∷ xs) ≡ from o xs
    past_head x xs None below at = refl
    past_head x xs (Some k) below at =
        let less : R x k ≡ Less = each_of (λ y. R x y ≡ Less) xs k below at in rw less refl

    -- from the first on it is all of the list
    pub from-next_none : (ks : List K) → from (next R ks None) ks ≡ ks
    from-next_none [] = refl
    from-next_none (x ∷ xs) = from_head x xs

    -- from the next above the head on it is the tail
    after_head : (x : K) (xs : List K) → AllByRecursion (λ y. R x y ≡ Less) xs
        → from (next R (x ∷ xs) (Some x)) (x ∷ xs) ≡ xs
    after_head x [] below = rw (tied_itself t x) refl
    after_head x (y ∷ ys) below =
        let less : R x y ≡ Less = below.0 in
        rw (tied_itself t x, greater x y less, less, tied_itself t y) refl

    -- from a listed one on it is that one, and then the list from the next above it on
    pub from-some : (ks : List K) (k : K) → IsStrictlySortedBy R ks → Contains ks k
        → from (Some k) ks ≡ k ∷ from (next R ks (Some k)) ks
    from-some [] k h at = absurd (none_listed k at)
    from-some (x ∷ xs) k h at =
        let below = sorted_head R x xs h in
        elim (head_or_tail x k xs at) [
          | inl is ↦ subst (λ k. from (Some k) (x ∷ xs)
              ≡ k ∷ from (next R (x ∷ xs) (Some k)) (x ∷ xs)) is
              (from_head x xs ∙ ap (λ ys. x ∷ ys) (sym (after_head x xs below)))
          | inr later ↦
              let less : R x k ≡ Less = each_of (λ y. R x y ≡ Less) xs k below later in
              let skip : next R (x ∷ xs) (Some k) ≡ next R xs (Some k) = rw less refl in
              past_head x xs (Some k) below later
              ∙ (from-some xs k (sorted_tail R x xs h) later
              ∙ ap (λ ys. k ∷ ys) (sym (ap (λ o. from o (x ∷ xs)) skip
              ∙ past_head x xs (next R xs (Some k)) below (next_listed xs (Some k)))))
        ]
