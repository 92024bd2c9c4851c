-- Two lists beside each other.
use Rattle.std.proofs.Common.{◌≡◌, ◌⊎◌, inl, inr, List, [], ◌∷◌, ap, refl, ◌∙◌}
use Rattle.std.specs.List.{zip}

zip_none : {A B : Type 0} (xs : List A) → zip {X = B} xs [] ≡ []
zip_none [] = refl
zip_none (x ∷ xs) = refl

-- no pairs where either is empty
pub zip_empty : {A B : Type 0} (xs : List A) (ys : List B) → (xs ≡ []) ⊎ (ys ≡ []) → zip xs ys ≡ []
zip_empty xs ys (inl empty) = ap (λ xs. zip xs ys) empty
zip_empty xs ys (inr empty) = ap (zip xs) empty ∙ zip_none xs

pub zip_more : {A B : Type 0} (xs more : List A) (ys others : List B) (x : A) (y : B)
    → xs ≡ x ∷ more → ys ≡ y ∷ others → zip xs ys ≡ (x, y) ∷ zip more others
zip_more xs more ys others x y first second = rw (first, second) refl
