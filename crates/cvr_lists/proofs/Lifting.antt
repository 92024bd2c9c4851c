-- Lists in strict order that are made of others in strict order, and the last of such a list.
use Rattle.std.proofs.Common.{◌≡◌, List, [], ◌∷◌, map, Contains, Ordering, Less, Some, None, inl}
use Rattle.std.proofs.Common.{inr, refl, sym, ap, ◌∙◌, subst, false}
use Rattle.std.specs.Prelude.{Option, option_map}
use Rattle.std.specs.List.{AllByRecursion, filter_map, cons_option, last_or}
use Rattle.std.specs.List.Sorted.{IsStrictlySortedBy}
use Rattle.std.specs.Ordering.{is_gt}
use Rattle.std.specs.Cmp.{IsTotalOrder, tied_itself}
use Rattle.cvr_facts.specs.Choosing.{IsGreatest}
use Rattle.cvr_facts.proofs.Lemmas.{at_head, at_tail, head_or_tail, none_listed}

-- ---- what rises still does

module _ {X Y : Type 0} (R : X → X → Ordering) (S : Y → Y → Ordering) where
  module _ (h : X → Option Y) (step : (x y : X) (a b : Y) → h x ≡ Some a → h y ≡ Some b
      → R x y ≡ Less → S a b ≡ Less) where
    below-filter_map : (x : X) (a : Y) → h x ≡ Some a → (xs : List X)
        → AllByRecursion (λ y. R x y ≡ Less) xs
        → AllByRecursion (λ b. S a b ≡ Less) (filter_map h xs)
    below-filter_map x a is [] below = tt
    below-filter_map x a is (y ∷ xs) below =
        elim (h y) as (λ o. h y ≡ o → AllByRecursion (λ b. S a b ≡ Less)
        (cons_option o (filter_map h xs))) [
          | None ↦ λ _. below-filter_map x a is xs below.1
          | Some b ↦ λ e. (step x y a b is e below.0, below-filter_map x a is xs below.1)
        ] refl

    pub rises-filter_map : (xs : List X) → IsStrictlySortedBy R xs
        → IsStrictlySortedBy S (filter_map h xs)
    unfolding IsStrictlySortedBy
    rises-filter_map [] up = tt
    rises-filter_map (x ∷ xs) up =
        elim (h x) as (λ o. h x ≡ o → IsStrictlySortedBy S (cons_option o (filter_map h xs))) [
          | None ↦ λ _. rises-filter_map xs up.1
          | Some a ↦ λ e. (below-filter_map x a e xs up.0, rises-filter_map xs up.1)
        ] refl

  module _ (f : X → Y) (P : X → Type 0)
      (step : (x y : X) → P x → P y → R x y ≡ Less → S (f x) (f y) ≡ Less) where
    below-map : (x : X) → P x → (xs : List X) → ((y : X) → Contains xs y → P y)
        → AllByRecursion (λ y. R x y ≡ Less) xs → AllByRecursion (λ b. S (f x) b ≡ Less) (map f xs)
    below-map x p [] all below = tt
    below-map x p (y ∷ xs) all below = (
      step x y p (all y (at_head y xs)) below.0,
      below-map x p xs
          (λ z at. all z (at_tail y z xs at)) below.1,
    )

    -- where P holds of each
    pub rises-map : (xs : List X) → ((y : X) → Contains xs y → P y) → IsStrictlySortedBy R xs
        → IsStrictlySortedBy S (map f xs)
    unfolding IsStrictlySortedBy
    rises-map [] all up = tt
    rises-map (x ∷ xs) all up =
        let rest : (y : X) → Contains xs y → P y = λ y at. all y (at_tail x y xs at) in
        (below-map x (all x (at_head x xs)) xs rest up.0, rises-map xs rest up.1)

-- ---- the last

pub last_or-map : {X Y : Type 0} (f : X → Y) (o : Option X) (xs : List X)
    → last_or (option_map f o) (map f xs) ≡ option_map f (last_or o xs)
last_or-map f o [] = refl
last_or-map f o (x ∷ xs) = last_or-map f (Some x) xs

last_in : {X : Type 0} (y : X) (xs : List X) (x : X) → last_or (Some y) xs ≡ Some x
    → Contains (y ∷ xs) x
last_in y [] x is = let same : y ≡ x = Prim.cc is in subst (Contains (y ∷ [])) same (at_head y [])
last_in y (z ∷ xs) x is = at_tail y x (z ∷ xs) (last_in z xs x is)

pub last_listed : {X : Type 0} (xs : List X) (x : X) → last_or None xs ≡ Some x → Contains xs x
last_listed [] x is = Prim.cc is
last_listed (y ∷ xs) x is = last_in y xs x is

some_last : {X : Type 0} (y : X) (xs : List X) → last_or (Some y) xs ≡ None → ⊥
some_last y [] is = Prim.cc is
some_last y (z ∷ xs) is = some_last z xs is

pub none_last : {X : Type 0} (xs : List X) → last_or None xs ≡ None → xs ≡ []
none_last [] is = refl
none_last (y ∷ xs) is = absurd (some_last y xs is)

module _ {K : Type 0} {R : K → K → Ordering} (t : IsTotalOrder R) where
  below_member : (x y : K) (xs : List K) → AllByRecursion (λ z. R x z ≡ Less) xs → Contains xs y
      → R x y ≡ Less
  below_member x y [] below at = absurd (none_listed y at)
  below_member x y (z ∷ xs) below at =
      elim (head_or_tail z y xs at) [
        | inl is ↦ subst (λ w. R x w ≡ Less) is below.0
        | inr more ↦ below_member x y xs below.1 more
      ]

  greatest_from : (y : K) (xs : List K) (x : K) → IsStrictlySortedBy R (y ∷ xs)
      → last_or (Some y) xs ≡ Some x → (z : K) → Contains (y ∷ xs) z → is_gt (R z x) ≡ false
  unfolding IsStrictlySortedBy
  greatest_from y [] x up is z at =
      let same : y ≡ x = Prim.cc is in
      elim (head_or_tail y z [] at) [
        | inl head ↦ ap is_gt (ap (R z) (sym same ∙ head) ∙ tied_itself t z)
        | inr none ↦ absurd (none_listed z none)
      ]
  greatest_from y (w ∷ xs) x up is z at =
      elim (head_or_tail y z (w ∷ xs) at) [
        | inl head ↦ ap is_gt (ap (λ v. R v x) (sym head)
            ∙ below_member y x (w ∷ xs) up.0 (last_in w xs x is))
        | inr more ↦ greatest_from w xs x up.1 is z more
      ]

  -- of a list that rises, the last is the greatest
  pub last_greatest : (xs : List K) (x : K) → IsStrictlySortedBy R xs → last_or None xs ≡ Some x
      → IsGreatest R xs x
  last_greatest [] x up is = Prim.cc is
  last_greatest (y ∷ xs) x up is =
      record { listed = last_in y xs x is; top = greatest_from y xs x up is }
