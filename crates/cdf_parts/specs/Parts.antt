-- The parts of a value, with a default where one is absent or of another kind. (This project's
-- own.)
use Rattle.std.specs.Prelude.{ℕ, ℤ, List, [], ◌∷◌, length, map, Option, Some, None, option_map}
use Rattle.std.specs.Prelude.{option_and_then, unwrap_or, Result, Ok, Err, codes}
use Rattle.serde_json.specs.Data.{Data, null}
use Rattle.serde_json.specs.Find.{get, as_str, as_array}
use Rattle.cdf_node.specs.Items.{list_of}
use Rattle.jiff.specs.Words.{parse_timestamp}

-- the items of the array under a name, or none
abbrev pub array_at : List ℕ → Data → List Data
array_at name d = unwrap_or (option_map list_of (option_and_then as_array (get name d))) []

-- the text under a name, if there is one
abbrev pub text_in : List ℕ → Data → Option (List ℕ)
text_in name d = option_and_then as_str (get name d)

-- the text under a name, or the empty one
abbrev pub text_at : List ℕ → Data → List ℕ
text_at name d = unwrap_or (text_in name d) []

-- the text at `@id`, or the empty one
abbrev pub id_of : Data → List ℕ
id_of d = text_at (codes "@id") d

-- the ids of the items of the array under a name
abbrev pub ids_at : List ℕ → Data → List (List ℕ)
ids_at name d = map id_of (array_at name d)

-- the first of a list of values, or null
abbrev pub first_or_null : List Data → Data
first_or_null [] = null
first_or_null (d ∷ ds) = d

-- a report's election
abbrev pub the_election : Data → Data
the_election d = first_or_null (array_at (codes "Election") d)

-- how many cast vote records a report has
abbrev pub record_count : Data → ℕ
record_count d = length (array_at (codes "CVR") d)

-- what was read, if it was
abbrev pub ok_of : {E : Type 0} → Result ℤ E → Option ℤ
ok_of (Ok n) = Some n
ok_of (Err e) = None

-- the instant of a date-time text (RFC 3339), in nanoseconds since 1970-01-01T00:00:00Z, as `jiff`
-- reads it: it reads more than RFC 3339, and of fractions and years less (docs/DECISIONS.md)
abbrev pub instant_of : List ℕ → Option ℤ
instant_of s = ok_of (parse_timestamp s)
