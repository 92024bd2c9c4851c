-- Lists of references, as the lists of what these point to.
use Rattle.std.proofs.Common.{◌≡◌, ◌+◌, ◌<◌, Bool, true, false, cond, List, [], ◌∷◌, ◌++◌, length}
use Rattle.std.proofs.Common.{map, Contains, inl, inr, refl, sym, ap, ◌∙◌, subst, arith}
use Rattle.std.specs.Prelude.{◌⊎◌, reverse}
use Rattle.std.specs.List.{dedup}
use Rattle.std.specs.List.Sorted.{IsSortedBy}
use Rattle.std.proofs.lemmas.List.{map-append, reverse-append, length-map, get_or-map}
use Rattle.std.proofs.lemmas.List.Elements.{Contains-append_cases}
use Rattle.cvr_facts.proofs.Lemmas.{one_listed, head_or_tail, none_listed}

module _ {X Y : Type 0} (f : X → Y) where
  -- a loop's step: x goes to the end
  pub pushed : (old new : List X) (x : X) (y : Y) (ys zs : List Y) → new ≡ old ++ x ∷ [] → f x ≡ y
      → map f old ≡ ys → zs ≡ ys ++ y ∷ [] → map f new ≡ zs
  pushed old new x y ys zs now is had more =
      ap (map f) now ∙ (map-append f old (x ∷ []) ∙ ((λ i. had i ++ is i ∷ []) ∙ sym more))

  pub map-reverse : (xs : List X) → map f (reverse xs) ≡ reverse (map f xs)
  map-reverse [] = refl
  map-reverse (x ∷ xs) =
      ap (map f) (reverse-append (x ∷ []) xs)
      ∙ (map-append f (reverse xs) (x ∷ [])
      ∙ (ap (λ ys. ys ++ f x ∷ []) (map-reverse xs) ∙ sym (reverse-append (f x ∷ []) (map f xs))))

  module _ (same : X → X → Bool) (alike : Y → Y → Bool)
      (tells : (x y : X) → same x y ≡ alike (f x) (f y)) where
    -- what is kept of a list whose first is x
    map-dedup_from : (x : X) (xs : List X)
        → map f (dedup same (x ∷ xs)) ≡ dedup alike (f x ∷ map f xs)
    map-dedup_from x [] = refl
    map-dedup_from x (y ∷ xs) =
        elim (same y x) as (λ b. same y x ≡ b
        → map f (cond b (dedup same (x ∷ xs)) (x ∷ dedup same (y ∷ xs)))
        ≡ dedup alike (f x ∷ f y ∷ map f xs)) [
          | true ↦ λ e. rw (sym (tells y x) ∙ e) (map-dedup_from x xs)
          | false ↦ λ e. rw (sym (tells y x) ∙ e) (ap (λ ys. f x ∷ ys) (map-dedup_from y xs))
        ] refl

    pub map-dedup : (xs : List X) → map f (dedup same xs) ≡ dedup alike (map f xs)
    map-dedup [] = refl
    map-dedup (x ∷ xs) = map-dedup_from x xs

  pub sorted-map : (lt : Y → Y → Bool) (xs : List X) → IsSortedBy (λ x y. lt (f x) (f y)) xs
      → IsSortedBy lt (map f xs)
  sorted-map lt xs h k d low high =
      let far : k + 1 < length xs = omega (arith, high, length-map xs f) in
      let e : X = (one_listed xs (omega (arith, far))).0 in
      (λ i. lt (get_or-map f xs (k + 1) e d far i) (get_or-map f xs k e d (omega (arith, far)) i))
      ∙ h k e low far

-- one of a list to which one was pushed
pub pushed_cases : {X : Type 0} (old new : List X) (x y : X) → new ≡ old ++ x ∷ [] → Contains new y
    → Contains old y ⊎ (x ≡ y)
pushed_cases old new x y now at =
    elim (Contains-append_cases old (x ∷ []) y (subst (λ xs. Contains xs y) now at)) [
      | inl before ↦ inl before
      | inr last ↦ elim (head_or_tail x y [] last)
          [ inl is ↦ inr is | inr none ↦ absurd (none_listed y none) ]
    ]
