-- A sink that keeps its bytes, and what a call makes of it. (This project's own.)
use Rattle.std.specs.Prelude.{◌≡◌, ℕ, ◌-◌, List, ◌++◌, length, take, min, Bool}

-- The bytes that it took, the most that a call takes, which of the calls to come fails (1: the
-- next, 0: none), and whether one has failed.
pub record SinkState : Type 0 where
  pub taken : List ℕ
  pub per_call : ℕ
  pub fails_in : ℕ
  pub has_failed : Bool

-- A call took n of the bytes, from the first on: as many as there are and one call allows. Such a
-- call is counted.
pub record TakesBytes (old new : SinkState) (bytes : List ℕ) (n : ℕ) : Type 0 where
  pub count : n ≡ min (length bytes) old.per_call
  pub sink : new ≡ record old { taken = old.taken ++ take n bytes; fails_in = old.fails_in - 1 }
