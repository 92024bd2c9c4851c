-- The pieces of an input, one after the other. (This project's own.)
use Rattle.std.specs.Prelude.{◌≡◌, ℕ, ◌+◌, List, [], ◌∷◌, length}
use Rattle.std.specs.List.{concat}

-- where each of some pieces ends, if the first begins at this place
abbrev pub ends_from : ℕ → List (List ℕ) → List ℕ
ends_from place [] = []
ends_from place (piece ∷ pieces) =
    (place + length piece) ∷ ends_from (place + length piece) pieces

-- the bytes from a place on are these pieces, one after the other, and each ends where it is said
pub record AreCut (place : ℕ) (bytes ends : List ℕ) (pieces : List (List ℕ)) : Type 0 where
  pub joined : concat pieces ≡ bytes
  pub ended : ends_from place pieces ≡ ends
