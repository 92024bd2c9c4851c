-- The greatest of a list in an order. (This project's own.)
use Rattle.std.specs.Prelude.{List, [], ◌∷◌, if◌then◌else◌, Option, Some, None}
use Rattle.std.specs.Option.{option_map_or}
use Rattle.std.specs.declared.cmp.Ordering.{Ordering}
use Rattle.std.specs.Ordering.{is_gt}

-- the greater of two
abbrev pub max_of : {K : Type 0} → (K → K → Ordering) → K → K → K
max_of R x y = if is_gt (R x y) then x else y

-- the greatest of a list, if it has any
abbrev pub max_by : {K : Type 0} → (K → K → Ordering) → List K → Option K
max_by R [] = None
max_by R (x ∷ xs) = Some (option_map_or (max_of R x) (max_by R xs) x)
