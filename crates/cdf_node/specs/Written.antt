-- What is written for a value: the new tokens are those of some JSON that has the value's items and
-- members in order, and its integers in decimal. (This project's own.)
use Rattle.std.specs.Prelude.{◌≡◌, List, ◌++◌}
use Rattle.json.specs.Token.{Token}
use Rattle.json.specs.Json.{Json}
use Rattle.json.specs.Tree.{json_tokens}
use Rattle.serde_json.specs.Data.{Data}
use Rattle.serde_json.specs.Written.{outline, blank}

-- the new tokens are those of some JSON that has the value's items and members in order, and its
-- integers in decimal
abbrev pub WritesValue : Data → List Token → List Token → Type 0
WritesValue d old new = (j : Json) × (new ≡ old ++ json_tokens j) × (blank j ≡ outline d)
