-- A value without the items of one array, and those items. (This project's own.)
use Rattle.std.specs.Prelude.{◌≡◌, ⊤, ◌^◌, ℕ, List, [], ◌∷◌, Option, None, Some, if◌then◌else◌}
use Rattle.std.specs.Prelude.{bytes_eq}
use Rattle.serde_json.specs.Data.{Data, array, object, Items, no_items, item, Members, no_members}
use Rattle.serde_json.specs.Data.{member}
use Rattle.serde_json.specs.Find.{get_member}
use Rattle.serde_json.specs.Read.{read}
use Rattle.cdf_node.specs.Items.{list_of}
use Rattle.cdf_node.specs.Order.{Rises}

-- the items of an array; any other value has none
abbrev pub items_in : Data → List Data
items_in (array ds) = list_of ds
items_in d = []

-- an array without its items; any other value stays
abbrev pub without_items : Data → Data
without_items (array ds) = array no_items
without_items d = d

-- the members, with what stands at the name changed
abbrev pub with_value_at : List ℕ → (Data → Data) → Members → Members
with_value_at name f no_members = no_members
with_value_at name f (member k d ms) =
    member k (if bytes_eq k name then f d else d) (with_value_at name f ms)

-- the members, with what stands at the name emptied
abbrev pub emptied_at : List ℕ → Members → Members
emptied_at name ms = with_value_at name without_items ms

-- the items of what was found: those of an array, and none of anything else
abbrev pub items_found : Option Data → List Data
items_found None = []
items_found (Some d) = items_in d

-- the items of the array at the name of an object; where there is none, no items
abbrev pub items_under : List ℕ → Data → List Data
items_under name (object ms) = items_found (get_member name ms)
items_under name d = []

-- the members, with an array of these items in the place of what stands at the name
abbrev pub with_items_at : List ℕ → Items → Members → Members
with_items_at name ds ms = with_value_at name (λ _. array ds) ms

-- what is left of a value beside the items under a name: of an object, with what stands at the name
-- emptied; any other value as it is
abbrev pub left_beside : List ℕ → Data → Data
left_beside name (object ms) = object (emptied_at name ms)
left_beside name d = d

-- the names of an object rise
abbrev pub IsOrdered : Data → Type 0
IsOrdered (object ms) = Rises ms
IsOrdered d = ⊤

-- the text is a value, this is left of it beside the items under the name, and that is kept of them
abbrev pub IsFolded : {K : Type 0} → (List Data → K → Type 0) → List ℕ → List ℕ → Data → K → Type 0
IsFolded keeps text name left kept = (d : Data) × (read text ≡ Some d) × (left ≡ left_beside name d)
    × keeps (items_under name d) kept × IsOrdered d

-- the most tokens of a text: one more than a text has bytes
abbrev pub most_tokens : ℕ
most_tokens = 2 ^ 63
