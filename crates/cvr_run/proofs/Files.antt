-- What was read of a source.
use Rattle.std.proofs.Common.{◌≡◌, ℕ, ◌≤◌, List, [], ◌++◌, length, take, drop, Option, Some, None}
use Rattle.std.proofs.Common.{IfSome, sym, ap, ◌∙◌, subst, append-nil}
use Rattle.std.proofs.lemmas.List.{take_all, drop_all, drop_at}
use Rattle.std.proofs.Math.Seq.{take-append_seam}
use Rattle.cdf_types.specs.Device.{Gives}

-- what was left at first is what was read and what is left now
abbrev pub Reads : Option (List ℕ) → Option (List ℕ) → List ℕ → Type 0
Reads first now bytes =
    IfSome first (λ xs. (rest : List ℕ) × (now ≡ Some rest) × (xs ≡ bytes ++ rest))

pub read_to_end : (first now after : Option (List ℕ)) (bytes old new : List ℕ) (n most : ℕ)
    → Reads first now bytes → Gives now after old new n → n ≡ 0 → length bytes ≤ most
    → IfSome first (λ xs. bytes ≡ take most xs)
read_to_end None now after bytes old new n most h g z l = tt
read_to_end (Some xs) now after bytes old new n most h g z l =
    let none : h.0 ≡ [] = (subst (λ o. Gives o after old new n) h.1 g).3 z in
    sym (ap (take most) (h.2 ∙ ap (λ r. bytes ++ r) none ∙ append-nil bytes)
    ∙ take_all most bytes l)

pub left_at_end : (first now after : Option (List ℕ)) (bytes old new : List ℕ) (n most : ℕ)
    → Reads first now bytes → Gives now after old new n → n ≡ 0 → length bytes ≤ most
    → IfSome first (λ xs. after ≡ Some (drop most xs))
left_at_end None now after bytes old new n most h g z l = tt
left_at_end (Some xs) now after bytes old new n most h g z l =
    let given = subst (λ o. Gives o after old new n) h.1 g in
    let none : h.0 ≡ [] = given.3 z in
    given.0 ∙ ap (λ k. Some (drop k h.0)) z
    ∙ ap Some (none ∙ sym (ap (drop most) (h.2 ∙ ap (λ r. bytes ++ r) none ∙ append-nil bytes)
    ∙ drop_all most bytes l))

pub left_behind : (first now : Option (List ℕ)) (bytes : List ℕ) (most : ℕ) → Reads first now bytes
    → length bytes ≡ most → IfSome first (λ xs. now ≡ Some (drop most xs))
left_behind None now bytes most h l = tt
left_behind (Some xs) now bytes most h l =
    h.1 ∙ ap Some (sym (ap (drop most) h.2 ∙ drop_at bytes h.0 most l))

pub read_most : (first now : Option (List ℕ)) (bytes : List ℕ) (most : ℕ) → Reads first now bytes
    → length bytes ≡ most → IfSome first (λ xs. bytes ≡ take most xs)
read_most None now bytes most h l = tt
read_most (Some xs) now bytes most h l =
    sym (ap (take most) h.2 ∙ ap (λ n. take n (bytes ++ h.0)) (sym l) ∙ take-append_seam bytes h.0)
