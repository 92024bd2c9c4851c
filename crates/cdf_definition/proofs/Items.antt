-- The first of lists of paths.
use Rattle.std.proofs.Common.{◌≡◌, List, [], ◌∷◌, ◌++◌, option_map, refl}
use Rattle.std.specs.Option.{option_or}
use Rattle.cdf_form.specs.Form.{Step, first}
use Rattle.cdf_definition.specs.Paths.{Path, below}

-- that of two lists
pub first_or : (xs ys : List Path) → first (xs ++ ys) ≡ option_or (first xs) (first ys)
first_or [] ys = refl
first_or (x ∷ xs) ys = refl

-- that of a part's
pub first_below : (s : Step) (ps : List Path)
    → first (below s ps) ≡ option_map (λ p. s ∷ p) (first ps)
first_below s [] = refl
first_below s (p ∷ ps) = refl
