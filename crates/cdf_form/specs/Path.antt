-- The text of a path: a JSON Pointer (RFC 6901).
use Rattle.std.specs.Prelude.{ℕ, List, [], ◌∷◌, ◌++◌, ◌==◌, if◌then◌else◌, decimal}
use Rattle.cdf_form.specs.Form.{Step, at_member, at_item}

-- `~0` stands for `~`, and `~1` for `/`
abbrev pub escape_byte : ℕ → List ℕ
escape_byte b = if b == 126 then 126 ∷ 48 ∷ [] else (if b == 47 then 126 ∷ 49 ∷ [] else b ∷ [])

-- a name with its `~` and `/` spelled so
abbrev pub escape : List ℕ → List ℕ
escape [] = []
escape (b ∷ bs) = escape_byte b ++ escape bs

-- one step: `/` and then the member's name or the item's decimal place
abbrev pub step_text : Step → List ℕ
step_text (at_member name) = 47 ∷ escape name
step_text (at_item i) = 47 ∷ decimal i

-- The text of a path: the texts of its steps, one behind the other. The whole document has the
-- empty text.
abbrev pub path_text : List Step → List ℕ
path_text [] = []
path_text (s ∷ ss) = step_text s ++ path_text ss
