-- How ids are kept: a list beside a map of places. (This project's own.)
use Rattle.std.specs.Prelude.{◌≡◌, ◌<◌, ℕ, List, [], map, length, slice_index_or, Some, string_bytes}
use Rattle.std.specs.Prelude.{String}
use Rattle.std.specs.List.{All}
use Rattle.std.specs.BTreeMap.{BTreeMap, get_by_text}
use Rattle.std.specs.declared.alloc.Global.{Global}
use Rattle.cdf_parts.specs.Places.{Texts, place_in}

-- the bytes of each text
abbrev pub bytes_of : List (String Global) → Texts
bytes_of texts = map (λ t. string_bytes t) texts

-- the map holds the first place of each id
abbrev pub HasPlaces : BTreeMap (String Global) ℕ → Texts → Type 0
HasPlaces places ids = (q : List ℕ) → get_by_text places q ≡ place_in ids q

-- a hint, if it is a place, is the first place of the id there
abbrev pub IsHint : Texts → ℕ → Type 0
IsHint ids p = p < length ids → place_in ids (slice_index_or ids p []) ≡ Some p

abbrev pub HasHints : List ℕ → Texts → Type 0
HasHints hints ids = All (IsHint ids) hints
