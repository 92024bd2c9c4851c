-- The members of a list in an order, each once. (This project's own.)
use Rattle.std.specs.Prelude.{List, [], ◌∷◌}
use Rattle.std.specs.declared.cmp.Ordering.{Ordering}
use Rattle.std.specs.FinMap as map
use Rattle.std.specs.FinMap.{FinMap}

-- the keys of a list, with nothing at each
abbrev pub keys_of : {K : Type 0} (R : K → K → Ordering) → List K → FinMap R (Unit {0})
keys_of R [] = map.empty
keys_of R (k ∷ ks) = map.insert (keys_of R ks) k tt

-- the members of a list, each once, rising in the order
abbrev pub keys_in_order : {K : Type 0} → (K → K → Ordering) → List K → List K
keys_in_order R ks = map.keys (keys_of R ks)
