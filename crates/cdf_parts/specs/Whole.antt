-- Laws of values with no float. (This project's own.)
use Rattle.std.specs.Prelude.{◌≡◌, ℕ, ◌<◌, List, length, map, slice_index_or, false, Some}
use Rattle.std.specs.List.{list_any}
use Rattle.serde_json.specs.Data.{Data}
use Rattle.serde_json.specs.Find.{get}
use Rattle.serde_json.specs.Written.{has_float}
use Rattle.cdf_node.specs.View.{view}
use Rattle.cdf_node.specs.declared.node.Node.{Node}
use Rattle.cdf_parts.specs.Parts.{array_at}

-- a member of a value with no float has none
abbrev pub WholeMembers : Type 0
WholeMembers = (d : Data) (name : List ℕ) (e : Data) → has_float d ≡ false → get name d ≡ Some e
    → has_float e ≡ false

-- nor has an item of the array under a name
abbrev pub WholeItems : Type 0
WholeItems = (d : Data) (name : List ℕ) → has_float d ≡ false
    → list_any has_float (array_at name d) ≡ false

-- nor has a value of a list where none has
abbrev pub WholeValues : Type 0
WholeValues = (values : List Node) (i : ℕ) (value : Node) → i < length values
    → value ≡ slice_index_or values i value
    → list_any has_float (map view values) ≡ false → has_float (view value) ≡ false
