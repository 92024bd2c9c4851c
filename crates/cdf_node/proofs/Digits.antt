-- What a number is, by what its readers give, and that the text of one below 0 reads as it.
use Rattle.std.proofs.Common.{◌≡◌, ℤ, pos, negsuc, Bool, true, Some, int_lt, SFits, w64}
use Rattle.std.proofs.Common.{arith}
use Rattle.std.specs.Fmt.{signed_decimal}
use Rattle.std.specs.Float.{float_is_finite}
use Rattle.std.specs.Option.{MatchOption}
use Rattle.serde_json.specs.Data.{Num, unsigned, negative, float}
use Rattle.serde_json.specs.Find.{as_u64, as_i64, to_float}
use Rattle.serde_json.specs.Number.{num_of, is_valid}
use Rattle.serde_json.specs.Read.{number_of}
use Rattle.serde_json.specs.declared.number.N.{N}
use Rattle.serde_json.proofs.Numbers.{number_of-negative}

pub kind_of : (n : Num) → MatchOption (as_u64 n)
    (MatchOption (as_i64 n) (float (to_float n) ≡ n) (λ z. negative z ≡ n)) (λ w. unsigned w ≡ n)
kind_of n = grind arith

abbrev pub in_range : Num → Bool
in_range (unsigned w) = true
in_range (negative z) = int_lt z (pos 0)
in_range (float x) = float_is_finite x

pub in_range-valid : (n : N) → in_range (num_of n) ≡ is_valid n
in_range-valid n = grind arith

pub number_of_below_zero : (z : ℤ) → int_lt z (pos 0) ≡ true → SFits w64 z
    → number_of (signed_decimal z) ≡ Some (negative z)
number_of_below_zero (pos n) e fits = absurd (grind arith)
number_of_below_zero (negsuc n) e fits = number_of-negative n (grind arith)
