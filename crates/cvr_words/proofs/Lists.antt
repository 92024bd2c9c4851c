-- Facts of each element of a list, told in turn.
use Rattle.std.proofs.Common.{◌≡◌, ◌++◌, Bool, true, false, List, [], ◌∷◌, Option, Some, None, cond}
use Rattle.std.proofs.Common.{refl}
use Rattle.std.specs.Prelude.{find}
use Rattle.std.specs.Prelude.{⊤}
use Rattle.std.specs.List.{list_any}
use Rattle.std.proofs.lemmas.Bool.{or_parts}

abbrev pub Each : {X : Type 0} → (X → Type 0) → List X → Type 0
Each P [] = ⊤
Each P (x ∷ xs) = P x × Each P xs

abbrev pub IfFound : {X : Type 0} → (X → Type 0) → Option X → Type 0
IfFound P None = ⊤
IfFound P (Some x) = P x

pub each_append : {X : Type 0} (P : X → Type 0) (xs ys : List X) → Each P xs → Each P ys
    → Each P (xs ++ ys)
each_append P [] ys a b = b
each_append P (x ∷ xs) ys a b = (a.0, each_append P xs ys a.1 b)

found_or : {X : Type 0} (P : X → Type 0) (b : Bool) (x : X) (o : Option X) → P x → IfFound P o
    → IfFound P (cond b (Some x) o)
found_or P true x o here later = here
found_or P false x o here later = later

-- what is found is one of the list
pub found : {X : Type 0} (P : X → Type 0) (f : X → Bool) (xs : List X) → Each P xs
    → IfFound P (find f xs)
found P f [] each = tt
found P f (x ∷ xs) each = found_or P (f x) x (find f xs) each.0 (found P f xs each.1)

-- no element passes a test that none passes
pub none_of : {X : Type 0} (f : X → Bool) (xs : List X) → list_any f xs ≡ false
    → Each (λ x. f x ≡ false) xs
none_of f [] h = tt
none_of f (x ∷ xs) h =
    let parts = or_parts (f x) (list_any f xs) h in (parts.0, none_of f xs parts.1)

-- a last element that does not pass is never found
pub find_front : {X : Type 0} (f : X → Bool) (xs : List X) (last : X) → f last ≡ false
    → find f (xs ++ last ∷ []) ≡ find f xs
find_front f [] last h = rw h refl
find_front f (x ∷ xs) last h = rw (find_front f xs last h) refl
