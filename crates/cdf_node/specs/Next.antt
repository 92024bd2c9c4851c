-- What comes next among the tokens of a text, as serde_json reads it, and the tokens after it. The
-- number says how deep arrays and objects may nest. (RFC 8259.)
use Rattle.std.specs.Prelude.{◌≡◌, ⊤, ℕ, List, ◌∷◌, Option, Some, None, option_and_then}
use Rattle.json.specs.Token.{Token}
use Rattle.json.specs.Json.{value, if_last}
use Rattle.serde_json.specs.Data.{Data, array, object}
use Rattle.serde_json.specs.Read.{of_json, converted}

-- the value that comes next among these tokens, and the tokens after it
abbrev pub next_value : ℕ → List Token → Option (Data × List Token)
next_value depth ts = converted of_json (value depth ts)

-- the value that comes next among these tokens, where nothing stands behind it
abbrev pub next_last : ℕ → List Token → Option Data
next_last depth ts =
    option_and_then of_json (option_and_then (λ p. if_last p.0 p.1) (value depth ts))

-- the token is this value by itself, whatever follows
abbrev pub IsAlone : Token → Data → Type 0
IsAlone t d = (depth : ℕ) (rest : List Token) → next_value depth (t ∷ rest) ≡ Some (d, rest)

-- no value begins with the token
abbrev pub BeginsNoValue : Token → Type 0
BeginsNoValue t = (depth : ℕ) (rest : List Token) → next_value depth (t ∷ rest) ≡ None

-- neither an array nor an object
abbrev pub IsScalar : Data → Type 0
IsScalar (array ds) = ⊥
IsScalar (object ms) = ⊥
IsScalar d = ⊤
