-- Whether all numbers are whole. (This project's own.)
use Rattle.std.specs.Prelude.{◌≡◌, Bool, false}
use Rattle.serde_json.specs.Data.{Data}
use Rattle.serde_json.specs.Written.{has_float}

-- where a number that isn't whole isn't noted after a value, the value has none, and none was noted
-- before
abbrev pub IsNoted : Bool → Bool → Data → Type 0
IsNoted before after d = after ≡ false → (before ≡ false) × (has_float d ≡ false)
