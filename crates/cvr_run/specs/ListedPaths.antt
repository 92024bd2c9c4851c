-- The paths of a list, as lines of a text. (This project's own.)
use Rattle.std.specs.Prelude.{◌≡◌, ◌≢◌, ◌⊎◌, ℕ, List, [], ◌∷◌, ◌++◌, ◌==◌, Bool, if◌then◌else◌}
use Rattle.std.specs.List.{AllByRecursion, flat_map}

-- what ends a path: a line feed or, where the list has NUL bytes, one of these
abbrev pub end_of : Bool → ℕ
end_of by_null = if by_null then 0 else 10

-- a byte before the first of some parts, or a part of it alone
abbrev pub before_paths : ℕ → List (List ℕ) → List (List ℕ)
before_paths byte [] = (byte ∷ []) ∷ []
before_paths byte (path ∷ paths) = (byte ∷ path) ∷ paths

-- a part stands before each end; what stands after the last end is a part too, unless it is empty
unfoldable pub parts_at : ℕ → List ℕ → List (List ℕ)
parts_at end [] = []
parts_at end (byte ∷ text) =
    if byte == end then [] ∷ parts_at end text else before_paths byte (parts_at end text)

-- ---- what that means

-- the paths with their ends
abbrev pub ended_paths : ℕ → List (List ℕ) → List ℕ
ended_paths end paths = flat_map (λ path. path ++ end ∷ []) paths

-- these are the text, or the text with one more end
abbrev pub WholeListLaw : Type 0
WholeListLaw = (end : ℕ) (text : List ℕ)
    → (ended_paths end (parts_at end text) ≡ text)
    ⊎ (ended_paths end (parts_at end text) ≡ text ++ end ∷ [])

-- no path has an end in it
abbrev pub NoEndLaw : Type 0
NoEndLaw = (end : ℕ) (text : List ℕ) → AllByRecursion
    (λ path. AllByRecursion (λ byte. byte ≢ end) path) (parts_at end text)

-- paths without ends in them are read back
abbrev pub ReadBackLaw : Type 0
ReadBackLaw = (end : ℕ) (paths : List (List ℕ))
    → AllByRecursion (λ path. AllByRecursion (λ byte. byte ≢ end) path) paths
    → parts_at end (ended_paths end paths) ≡ paths

-- ---- an example

-- three paths, of which the second is empty and the last has no end
abbrev pub ThreePaths : Type 0
ThreePaths = parts_at 10 (97 ∷ 10 ∷ 10 ∷ 98 ∷ 99 ∷ []) ≡ (97 ∷ []) ∷ [] ∷ (98 ∷ 99 ∷ []) ∷ []
