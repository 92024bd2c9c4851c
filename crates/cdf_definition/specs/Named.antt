-- Objects by their ids: lists of id and text, in byte order of id. (This project's own.)
use Rattle.std.specs.Prelude.{ℕ, List, map, reverse, Option, bytes_eq, string_bytes, String}
use Rattle.std.specs.Map.{lookup}
use Rattle.std.specs.Ordering.{nat_cmp}
use Rattle.std.specs.Cmp.Lexicographic.{slice_cmp}
use Rattle.std.specs.FinMap.{entries, from_entries}
use Rattle.std.specs.declared.alloc.Global.{Global}
use Rattle.serde_json.specs.Data.{Data}
use Rattle.serde_json.specs.Written.{compact_text}
use Rattle.cdf_parts.specs.Parts.{id_of}
use Rattle.cdf_parts.specs.Places.{Texts}

-- an object's id and compact text
abbrev pub IdText : Type 0
IdText = List ℕ × List ℕ

abbrev pub id_and_text : Data → IdText
id_and_text d = (id_of d, compact_text d)

-- the ids, and the texts
abbrev pub ids_of : List IdText → Texts
ids_of entries = map (λ e. e.0) entries

abbrev pub texts_of : List IdText → Texts
texts_of entries = map (λ e. e.1) entries

-- the text that stands beside an id
abbrev pub text_of : List IdText → List ℕ → Option (List ℕ)
text_of entries id = lookup (bytes_eq id) entries

-- the map of ids to texts that the entries make, where the last of an id stands: its entries, in
-- byte order of the ids
abbrev pub by_id : List IdText → List IdText
by_id es = entries (from_entries {R = slice_cmp nat_cmp} (reverse es))

-- the entries of a map
abbrev pub map_entries : List (String Global × List ℕ) → List IdText
map_entries es = map (λ e. (string_bytes e.0, e.1)) es
