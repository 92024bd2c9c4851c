-- How far an array or an object was read, and what is still to come of it. (This project's own.)
use Rattle.std.specs.Prelude.{◌≡◌, ℕ, ◌-◌, ◌≤◌, List, [], ◌∷◌, length}
use Rattle.json.specs.Token.{Token}
use Rattle.json.specs.Json.{parse_map, items, members, value}
use Rattle.serde_json.specs.Data.{Data, array, object, Items, item, Members}
use Rattle.serde_json.specs.Read.{of_items, of_members, converted}
use Rattle.cdf_node.specs.Next.{next_value}

-- the items, and then the rest
abbrev pub items_before : List Data → Items → Items
items_before [] rest = rest
items_before (d ∷ ds) rest = item d (items_before ds rest)

-- the tokens `start` follow the bracket; these items were read from them, and the tokens `now` are
-- left
pub record InArray (depth : ℕ) (start : List Token) (ds : List Data)
    (now : List Token) : Type 0 where
  pub turns : ℕ
  pub enough : length now ≤ turns
  pub fewer : length now ≤ length start
  pub same : next_value depth (Token.begin_array ∷ start)
      ≡ parse_map (λ es. array (items_before ds es))
      (converted of_items (items (value (depth - 1)) turns now))

-- the tokens `start` follow the brace; these members were found in them, and the tokens `now` are
-- left
pub record InObject (depth : ℕ) (start : List Token) (found : Members)
    (now : List Token) : Type 0 where
  pub turns : ℕ
  pub enough : length now ≤ turns
  pub fewer : length now ≤ length start
  pub same : next_value depth (Token.begin_object ∷ start)
      ≡ parse_map object (converted (λ ms. of_members ms found)
      (members (value (depth - 1)) turns now))
