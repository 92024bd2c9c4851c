-- What a source gave and a sink took, and whether it failed. (This project's own.)
use Rattle.std.specs.Prelude.{◌≡◌, ◌≢◌, ℕ, ◌≤◌, zero, suc, List, [], ◌++◌, length, take, drop, Bool}
use Rattle.std.specs.Prelude.{true, false, Option, None, Some, option_map, Result, Ok, Err}
use Rattle.std.specs.Prelude.{MatchOption}

-- the count that a call answered: an Err moves no byte
abbrev pub count : {E : Type 0} → Result ℕ E → ℕ
count (Ok n) = n
count (Err e) = 0

-- a sink has failed where it answered an Err or 0
abbrev pub fails_write : {E : Type 0} → Result ℕ E → Bool
fails_write (Ok zero) = true
fails_write (Ok (suc n)) = false
fails_write (Err e) = true

-- a source has failed where it answered an Err
abbrev pub fails_read : {E : Type 0} → Result ℕ E → Bool
fails_read (Ok n) = false
fails_read (Err e) = true

-- what contracts see of a sink: the bytes that it has taken, if it shows them, and whether a write
-- has failed
pub record Taken : Type 0 where
  pub bytes : Option (List ℕ)
  pub failed : Bool

-- what contracts see of a source: the bytes that are left, if it shows them, whether a read has
-- failed, and whether one to come can
pub record Left : Type 0 where
  pub bytes : Option (List ℕ)
  pub failed : Bool
  pub can_fail : Bool

-- the bytes that a sink shows, with these at the end
abbrev pub taken_with : Option (List ℕ) → List ℕ → Option (List ℕ)
taken_with before bytes = option_map (λ taken. taken ++ bytes) before

-- A sink has taken these bytes more, at the end. Of the bytes of a sink that doesn't show them this
-- says nothing.
abbrev pub Appends : Taken → Taken → List ℕ → Type 0
Appends old new bytes = new.bytes ≡ taken_with old.bytes bytes

-- a sink has taken a prefix of these bytes more: the bytes are that prefix and a rest
abbrev pub AppendsPrefix : Taken → Taken → List ℕ → Type 0
AppendsPrefix old new bytes = (prefix rest : List ℕ) × (bytes ≡ prefix ++ rest)
    × Appends old new prefix

-- a sink has taken a prefix of these bytes more, and not all of them: the rest has a byte
abbrev pub AppendsProperPrefix : Taken → Taken → List ℕ → Type 0
AppendsProperPrefix old new bytes =
    (prefix rest : List ℕ) × (bytes ≡ prefix ++ rest) × (rest ≢ []) × Appends old new prefix

-- A source that shows its bytes gave the first n bytes of what was left. They stand at the start of
-- the buffer; the rest of the buffer is as it was; n is 0 only at the end.
abbrev pub Gives : Option (List ℕ) → Option (List ℕ) → List ℕ → List ℕ → ℕ → Type 0
Gives before after old new n =
    MatchOption before (after ≡ None)
    (λ left.
    (after ≡ Some (drop n left)) × (n ≤ length left) × (new ≡ take n left ++ drop n old)
    × (n ≡ 0 → left ≡ []))
