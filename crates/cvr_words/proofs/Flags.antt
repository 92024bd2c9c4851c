-- A plain shape has no global argument.
use Rattle.std.proofs.Common.{◌≡◌, Bool, true, false, ◌&&◌, not, arith}

pub third_is_false : (a b c d : Bool) → (a && (not b && (not c && d))) ≡ true → c ≡ false
third_is_false a b c d h = grind arith
