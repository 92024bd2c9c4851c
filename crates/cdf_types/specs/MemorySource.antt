-- A source over bytes, and what a call makes of it. (This project's own.)
use Rattle.std.specs.Prelude.{◌≡◌, ℕ, ◌-◌, List, [], ◌∷◌, ◌++◌, length, take, drop, min, ◌==◌, not}
use Rattle.std.specs.Prelude.{Bool, true, false}

-- The bytes that are left, the most that a call gives, which of the calls to come fails (1: the
-- next, 0: none), and whether one has failed.
pub record SourceState : Type 0 where
  pub rest : List ℕ
  pub per_call : ℕ
  pub fails_in : ℕ
  pub has_failed : Bool

-- a call to come fails
abbrev pub can_fail : SourceState → Bool
can_fail s = not (s.fails_in == 0)

-- as an example, a source of three bytes that fails at this call
abbrev pub failing_call : ℕ → SourceState
failing_call n = record { rest = 7 ∷ 8 ∷ 9 ∷ []; per_call = 2; fails_in = n; has_failed = false }

-- A call gave n bytes: as many as the buffer, one call and the rest allow, at the front of the
-- buffer. Such a call is counted.
pub record GivesBytes (old new : SourceState) (before after : List ℕ) (n : ℕ) : Type 0 where
  pub count : n ≡ min (min (length before) old.per_call) (length old.rest)
  pub source : new ≡ record old { rest = drop n old.rest; fails_in = old.fails_in - 1 }
  pub buffer : after ≡ take n old.rest ++ drop n before

-- A call failed: the source has failed, and nothing else changed.
pub record ReadFails (old new : SourceState) (before after : List ℕ) : Type 0 where
  pub source : new ≡ record old { has_failed = true }
  pub buffer : after ≡ before
