-- What a value is, by what is left of it and by its items; and what stands in an object whose array
-- was filled in. (This project's own.)
use Rattle.std.specs.Prelude.{◌≡◌, ◌⊎◌, ℕ, List, [], Some, option_map, bytes_eq, false}
use Rattle.serde_json.specs.Data.{Data, array, object, Items, no_items, Members}
use Rattle.serde_json.specs.Find.{get, get_member}
use Rattle.serde_json.specs.View.{items_of}
use Rattle.serde_json.specs.Written.{items_have_float, members_have_float}
use Rattle.cdf_pull.specs.Fold.{with_items_at, items_under, left_beside, IsOrdered}

-- no array stands at the name, and nothing was taken; or what is left is an object with an empty
-- one there, and the value has the items in it
abbrev pub IsBeside : List ℕ → Data → List Data → Data → Type 0
IsBeside name whole items left =
    ((left ≡ whole) × (items ≡ []) × ((ds : Items) → get name whole ≡ Some (array ds) → ⊥))
    ⊎ ((ms : Members) × (left ≡ object ms) × (get_member name ms ≡ Some (array no_items))
    × (with_items_at name no_items ms ≡ ms)
    × (whole ≡ object (with_items_at name (items_of items) ms)))

abbrev pub BesideLaw : Type 0
BesideLaw = (name : List ℕ) (d : Data) → IsOrdered d
    → IsBeside name d (items_under name d) (left_beside name d)

-- the other names have what they had
abbrev pub OthersLaw : Type 0
OthersLaw = (name : List ℕ) (ds : Items) (q : List ℕ) (ms : Members) → bytes_eq q name ≡ false
    → get_member q (with_items_at name ds ms) ≡ get_member q ms

-- the name has the array, where it had anything
abbrev pub NameLaw : Type 0
NameLaw = (name : List ℕ) (ds : Items) (ms : Members)
    → get_member name (with_items_at name ds ms) ≡ option_map (λ _. array ds) (get_member name ms)

-- no fraction comes in
abbrev pub StaysWholeLaw : Type 0
StaysWholeLaw = (name : List ℕ) (ds : Items) (ms : Members) → items_have_float ds ≡ false
    → members_have_float ms ≡ false → members_have_float (with_items_at name ds ms) ≡ false
