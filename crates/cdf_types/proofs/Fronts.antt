-- The bytes that a sink has taken, a piece at a time.
use Rattle.std.proofs.Common.{◌≡◌, ℕ, List, ◌++◌, take, drop, false, Option, Some, None}
use Rattle.std.proofs.Common.{Result, Ok, refl, sym, ap, ◌∙◌, append_assoc, arith}
use Rattle.std.proofs.lemmas.List.{take-append-drop}
use Rattle.cdf_types.specs.Device.{fails_write, taken_with}

pub appended_twice : (o : Option (List ℕ)) (a b : List ℕ)
    → taken_with (taken_with o a) b ≡ taken_with o (a ++ b)
appended_twice None a b = refl
appended_twice (Some t) a b = ap Some (append_assoc t a b)

pub one_more_piece : (bytes front rest : List ℕ) (n : ℕ) → bytes ≡ front ++ rest
    → bytes ≡ (front ++ take n rest) ++ drop n rest
one_more_piece bytes front rest n e =
    e ∙ ap (λ r. front ++ r) (sym (take-append-drop n rest)) ∙ sym (append_assoc front _ _)

-- a count above 0 is no failure
pub some_count : {E : Type 0} (r : Result ℕ E) (n : ℕ) → r ≡ Ok n → (n ≡ 0 → ⊥)
    → fails_write r ≡ false
some_count r n e some = grind arith
