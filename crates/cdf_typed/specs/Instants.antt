-- The later of two instants. (This project's own.)
use Rattle.std.specs.Prelude.{ℤ, Option, Some, None}
use Rattle.std.specs.Ordering.{int_cmp}
use Rattle.cdf_typed.specs.Greatest.{max_of}

-- the later of two instants, if there is one
abbrev pub later : Option ℤ → Option ℤ → Option ℤ
later None other = other
later (Some a) None = Some a
later (Some a) (Some b) = Some (max_of int_cmp a b)
