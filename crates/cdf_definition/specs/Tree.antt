-- The data that a `Tree` stands for. (As `serde_json` has it.)
use Rattle.std.specs.Prelude.{List, map, String, string_bytes}
use Rattle.std.specs.declared.alloc.Global.{Global}
use Rattle.serde_json.specs.Data.{Data, null, boolean, number, string, array, object, Items}
use Rattle.serde_json.specs.Data.{Members}
use Rattle.serde_json.specs.View.{number_view, items_of, members_of}
use Rattle.cdf_definition.specs.declared.tree.Tree.{Tree, fold-Tree}
use Rattle.cdf_definition.specs.declared.tree.Tree.TheOpen.{Tree-F}

-- one level, with each tree inside already seen as its data
abbrev pub owned_step : Tree-F Data → Data
owned_step Tree-F.Null = null
owned_step (Tree-F.Bool b) = boolean b
owned_step (Tree-F.Number x) = number (number_view x)
owned_step (Tree-F.String s) = string (string_bytes s)
owned_step (Tree-F.Array v) = array (items_of v.items)
owned_step (Tree-F.Object v) = object (members_of v.items)

-- the JSON data that a tree stands for
abbrev pub owned : Tree → Data
owned = fold-Tree Data owned_step

-- the items of these trees
abbrev pub owned_items : List Tree → Items
owned_items trees = items_of (map owned trees)

-- these members, in the order of their list
abbrev pub owned_members : List (String Global × Tree) → Members
owned_members trees = members_of (map (λ m. (m.0, owned m.1)) trees)
