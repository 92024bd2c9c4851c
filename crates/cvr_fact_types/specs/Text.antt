-- A word of a printed line. (This project's own.)
use Rattle.std.specs.Prelude.{ℕ, List, [], ◌∷◌, ◌++◌}
use Rattle.json.specs.Print.{quoted}

-- a text as a JSON string, and a space
abbrev pub word : List ℕ → List ℕ
word text = quoted text ++ 32 ∷ []
