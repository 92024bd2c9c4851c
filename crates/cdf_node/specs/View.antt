-- The data that a `Node` stands for. (As `serde_json` has it.)
use Rattle.std.specs.Prelude.{ℕ, List, [], ◌∷◌, map}
use Rattle.std.specs.Borrow.{Bor}
use Rattle.serde_json.specs.Data.{Data, null, boolean, number, string, array, object, Items}
use Rattle.serde_json.specs.Data.{Members, no_members, member}
use Rattle.cdf_node.specs.declared.node.Node.{Node, fold-Node}
use Rattle.cdf_node.specs.declared.node.Node.TheOpen.{Node-F}
pub use Rattle.serde_json.specs.View.{number_view, items_of}

-- members as data, in the order of their list
abbrev pub members_of : List (Bor (List ℕ) × Data) → Members
members_of [] = no_members
members_of (m ∷ ms) = member m.0.now m.1 (members_of ms)

-- one level, with each node inside already seen as its data
abbrev pub view_step : Node-F Data → Data
view_step Node-F.Null = null
view_step (Node-F.Bool b) = boolean b
view_step (Node-F.Number x) = number (number_view x)
view_step (Node-F.String s) = string s.now
view_step (Node-F.Array v) = array (items_of v.now)
view_step (Node-F.Object v) = object (members_of v.now)

-- the JSON data that a node stands for: numbers by their values, members in the order of their list
abbrev pub view : Node → Data
view = fold-Node Data view_step

-- the items of these nodes, each as its data
abbrev pub items_view : List Node → Items
items_view vs = items_of (map view vs)

-- these members, each value as its data, in the order of their list
abbrev pub members_view : List (Bor (List ℕ) × Node) → Members
members_view ms = members_of (map (λ m. (m.0, view m.1)) ms)
