-- No text has both forms of a step.
use Rattle.std.proofs.Common.{◌≡◌, ◌∙◌, ◌<◌, ◌++◌, ◌+◌, ◌==◌, ◌&&◌, ℕ, Bool, true, false, not, []}
use Rattle.std.proofs.Common.{◌∷◌, Some, None, length, arith, refl, ap, ap₂, get_or, drop}
use Rattle.std.specs.Prelude.{if◌then◌else◌, nat_lt}
use Rattle.std.specs.List.{list_all, position_or_len}
use Rattle.std.specs.Char.{is_ascii_digit}
use Rattle.std.proofs.lemmas.Bool.{and_parts, eqb-true, not-true}
use Rattle.std.proofs.lemmas.Bool.Decides.{nat_tests}
use Rattle.std.proofs.lemmas.List.{drop_all, length-drop}
use Rattle.std.proofs.lemmas.List.Folds.{list_all-append}
use Rattle.std.proofs.lemmas.List.Sums.{AllPass-from_list_all, passes_at_first, position_or_len_is}
use Rattle.std.proofs.lemmas.List.Sums.{split_at_first}
use Rattle.cvr_words.specs.Step.{StepForm, Text, after, before, exchange_in, import_in, is_number}
use Rattle.cvr_words.proofs.Numbers.{in_range}

no_sign : (c : ℕ) → is_ascii_digit c ≡ true → not (c == 61) ≡ true
no_sign c h = let r = in_range c h in grind (arith, nat_tests)

-- among digits there is no `=`
no_signs : (t : Text) → list_all is_ascii_digit t ≡ true → list_all (λ c. not (c == 61)) t ≡ true
no_signs [] h = refl
no_signs (c ∷ cs) h =
    let parts = and_parts (is_ascii_digit c) (list_all is_ascii_digit cs) h in
    ap₂ (λ (a b : Bool). a && b) (no_sign c parts.0) (no_signs cs parts.1)

-- nor among digits, `>` and digits
no_sign_in : (a : Text) (c : ℕ) (b : Text) → list_all is_ascii_digit a ≡ true → (c == 62) ≡ true
    → list_all is_ascii_digit b ≡ true
    → list_all (λ c. not (c == 61)) (a ++ c ∷ b) ≡ true
no_sign_in a c b before is after =
    let sign : not (c == 61) ≡ true = let e = eqb-true c 62 is in grind (arith, nat_tests) in
    list_all-append (λ (c : ℕ). not (c == 61)) a (c ∷ b)
    ∙ ap₂ (λ (x y : Bool). x && y) (no_signs a before)
    (ap₂ (λ (x y : Bool). x && y) sign (no_signs b after))

-- nothing stands after a sign that isn't there
none_after : (t : Text) → list_all (λ c. not (c == 61)) t ≡ true → after 61 t ≡ []
none_after t h =
    let last : position_or_len (λ b. b == 61) t ≡ length t =
    position_or_len_is (λ (b : ℕ). b == 61) t (length t) 0 (omega arith)
    (λ k lt. not-true (get_or t k 0 == 61)
    (AllPass-from_list_all (λ (c : ℕ). not (c == 61)) t h k 0 lt)) (λ lt. absurd (omega arith))
    in
    ap (λ (n : ℕ). drop (n + 1) t) last ∙ drop_all (length t + 1) t (omega arith)

-- a number, `>` and a number: nothing stands after `=`
no_path : (t : Text) → is_number (before 62 t) ≡ true → is_number (after 62 t) ≡ true
    → after 61 t ≡ []
no_path t first second =
    let front = and_parts (nat_lt 0 (length (before 62 t))) _ first in
    let back = and_parts (nat_lt 0 (length (after 62 t))) _ second in
    let place : ℕ = position_or_len (λ b. b == 62) t in
    let low : place < length t =
    let some = back.0 in let long = length-drop (place + 1) t in grind (arith, nat_tests) in
    let whole = split_at_first (λ (b : ℕ). b == 62) t 0 low in
    none_after t
    (ap (list_all (λ (c : ℕ). not (c == 61))) whole
    ∙ no_sign_in (before 62 t) (get_or t place 0) (after 62 t) (and_parts _ _ front.1).1
    (passes_at_first (λ (b : ℕ). b == 62) t 0 low) (and_parts _ _ back.1).1)

taken : (b : Bool) (f g : StepForm) → (if b then Some f else None) ≡ Some g → b ≡ true
taken true f g h = refl
taken false f g h = cc

nothing_longer : (t : Text) → t ≡ [] → nat_lt 0 (length t) ≡ true → ⊥
nothing_longer [] e h = cc
nothing_longer (c ∷ cs) e h = cc

not_taken : (b : Bool) (f : StepForm) → (b ≡ true → ⊥) → (if b then Some f else None) ≡ None
not_taken true f never = absurd (never refl)
not_taken false f never = refl

pub one_form : (text : Text) (form : StepForm) → import_in text ≡ Some form
    → exchange_in text ≡ None
one_form text form h =
    let path = (and_parts (is_number (before 61 text)) _ (taken _ _ form h)).1 in
    not_taken (is_number (before 62 text) && is_number (after 62 text)) _
    (λ e. let parts = and_parts (is_number (before 62 text)) (is_number (after 62 text)) e in
    nothing_longer (after 61 text) (no_path text parts.0 parts.1) path)
