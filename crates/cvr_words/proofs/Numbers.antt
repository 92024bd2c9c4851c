-- One to nine digits are read as a number.
use Rattle.std.proofs.Common.{◌≡◌, ◌≤◌, ◌<◌, ◌^◌, ℕ, true, List, [], ◌∷◌, Result}
use Rattle.std.proofs.Common.{Ok, Err, length, rules, arith, get_or, lit<}
use Rattle.std.specs.List.{list_all}
use Rattle.std.specs.Int.{IsInRange}
use Rattle.std.specs.Char.{is_ascii_digit, digit_value}
use Rattle.std.specs.Result.{result_ok}
use Rattle.std.specs.Str.Parse.{AllDigits, ParsesUnsigned, digits_value, without_leading_plus}
use Rattle.std.proofs.lemmas.Str.{digit_value_digit}
use Rattle.std.proofs.lemmas.Str.Parse.{without_leading_plus_none}
use Rattle.std.proofs.lemmas.Int.Digits.{digits_value-lt}
use Rattle.std.proofs.Math.Nat.{pow-le-pow_right}
use Rattle.std.proofs.lemmas.Bool.{and_parts}
use Rattle.cvr_words.specs.Step.{number_of_text}

pub in_range : (c : ℕ) → is_ascii_digit c ≡ true → IsInRange 48 57 c
in_range c h = search rules

small : (c : ℕ) → is_ascii_digit c ≡ true → digit_value c < 10
small c h =
    let e = digit_value_digit c (in_range c h) in let r = in_range c h in omega (arith, e, r)

pub all_digits : (t : List ℕ) → list_all is_ascii_digit t ≡ true → AllDigits 10 t
all_digits [] h = search rules
all_digits (c ∷ cs) h = (
  small c (and_parts (is_ascii_digit c) (list_all is_ascii_digit cs) h).0,
  all_digits cs (and_parts (is_ascii_digit c) (list_all is_ascii_digit cs) h).1,
)

first_digit : (t : List ℕ) → list_all is_ascii_digit t ≡ true → get_or t 0 0 ≡ 43 → ⊥
first_digit [] h e = cc
first_digit (c ∷ cs) h e =
    let r = in_range c (and_parts (is_ascii_digit c) (list_all is_ascii_digit cs) h).0 in
    let is : c ≡ 43 = e in
    omega (arith, r, is)

no_plus : (t : List ℕ) → list_all is_ascii_digit t ≡ true → without_leading_plus t ≡ t
no_plus t h = without_leading_plus_none t (first_digit t h)

ten_nine : (n : ℕ) → n ≤ 9 → 10 ^ n ≤ 10 ^ 9
ten_nine n h = pow-le-pow_right (lit< tt) h

fits : (t : List ℕ) → length t ≤ 9 → list_all is_ascii_digit t ≡ true → digits_value 10 t < 2 ^ 32
fits t short h =
    let low = digits_value-lt 10 t (all_digits t h) in
    let most = ten_nine (length t) short in
    omega (arith, low, most)

pub parsed : {E : Type 0} (t : List ℕ) (r : Result ℕ E) → 0 < length t → length t ≤ 9
    → list_all is_ascii_digit t ≡ true
    → ParsesUnsigned 32 10 t r → result_ok r ≡ number_of_text t
parsed t (Ok n) some short h p =
    rw (h) (search rules)
parsed t (Err e) some short h p =
    absurd (p (rw (no_plus t h) ((some, all_digits t h), fits t short h)))
