-- The text of a path, step by step and character by character.
use Rattle.std.proofs.Common.{◌≡◌, ◌≢◌, ℕ, ◌+◌, ◌/◌, ◌<◌, ◌≤◌, List, [], ◌∷◌, ◌++◌, Bool, true}
use Rattle.std.proofs.Common.{false, cond, map, reverse, length, get_or, drop, refl, sym, ap, ◌∙◌}
use Rattle.std.proofs.Common.{arith, append_assoc, append-nil}
use Rattle.std.proofs.lemmas.List.{reverse-append, drop_more}
use Rattle.std.proofs.lemmas.Bool.Decides.{nat_tests}
use Rattle.std.specs.Char.{encode_utf8}
use Rattle.std.specs.Str.{encode_utf8_all}
use Rattle.std.proofs.lemmas.Str.{encodes-append}
use lib.Utf8.{next}
use lib.Dec.{ltb}
use Rattle.cdf_form.specs.declared.found.Step.{Step as Kept}
use Rattle.cdf_form.specs.Form.{Step}
use Rattle.cdf_form.specs.Found.{step_of}
use Rattle.cdf_form.specs.Path.{escape_byte, escape, step_text, path_text}

pub escape-append : (xs ys : List ℕ) → escape (xs ++ ys) ≡ escape xs ++ escape ys
escape-append [] ys = refl
escape-append (x ∷ xs) ys =
    rw (escape-append xs ys) (sym (append_assoc (escape_byte x) (escape xs) (escape ys)))

escape_byte-other : (b : ℕ) → b ≢ 126 → b ≢ 47 → escape_byte b ≡ b ∷ []
escape_byte-other b h k = grind (arith, nat_tests)

escape_byte-high : (b : ℕ) → 128 ≤ b → escape_byte b ≡ b ∷ []
escape_byte-high b h = escape_byte-other b (omega arith) (omega arith)

fixed-cons : (b : ℕ) (s : List ℕ) → 128 ≤ b → escape s ≡ s → escape (b ∷ s) ≡ b ∷ s
fixed-cons b s h e = rw (escape_byte-high b h, e)

fixed-cond : (t : Bool) (x y : List ℕ) → escape x ≡ x → escape y ≡ y
    → escape (cond t x y) ≡ cond t x y
fixed-cond true x y p q = p
fixed-cond false x y p q = q

pub escape-encode : (c : ℕ) → c ≢ 126 → c ≢ 47 → escape (encode_utf8 c) ≡ encode_utf8 c
unfolding encode_utf8
escape-encode c h k =
    let b0 = 192 + c / 64 in let n0 = next c in
    let b1 = 224 + c / 4096 in let n1 = next (c / 64) in
    let b2 = 240 + c / 262144 in let n2 = next (c / 4096) in
    let one : escape (c ∷ []) ≡ c ∷ [] = rw (escape_byte-other c h k) in
    let two : escape (b0 ∷ n0 ∷ []) ≡ b0 ∷ n0 ∷ [] =
    fixed-cons b0 _ (omega arith) (fixed-cons n0 [] (omega arith) refl) in
    let three : escape (b1 ∷ n1 ∷ n0 ∷ [])
    ≡ b1 ∷ n1 ∷ n0 ∷ [] = fixed-cons b1 _ (omega arith)
    (fixed-cons n1 _ (omega arith) (fixed-cons n0 [] (omega arith) refl)) in
    let four : escape (b2 ∷ n2 ∷ n1 ∷ n0 ∷ [])
    ≡ b2 ∷ n2 ∷ n1 ∷ n0 ∷ [] = fixed-cons b2 _ (omega arith)
    (fixed-cons n2 _ (omega arith) (fixed-cons n1 _ (omega arith)
    (fixed-cons n0 [] (omega arith) refl))) in
    fixed-cond (ltb c 128) (c ∷ []) _ one
    (fixed-cond (ltb c 2048) (b0 ∷ n0 ∷ []) _ two
    (fixed-cond (ltb c 65536) (b1 ∷ n1 ∷ n0 ∷ []) _ three four))

pub escape-more : (cs : List ℕ) (c : ℕ)
    → escape (encode_utf8_all (cs ++ c ∷ []))
    ≡ escape (encode_utf8_all cs) ++ escape (encode_utf8 c)
escape-more cs c = ap escape (encodes-append cs (c ∷ []))
    ∙ escape-append (encode_utf8_all cs) (encode_utf8 c ++ [])
    ∙ ap (λ t. escape (encode_utf8_all cs) ++ escape t) (append-nil (encode_utf8 c))

pub path_text-append : (xs ys : List Step) → path_text (xs ++ ys) ≡ path_text xs ++ path_text ys
path_text-append [] ys = refl
path_text-append (x ∷ xs) ys =
    rw (path_text-append xs ys) (sym (append_assoc (step_text x) (path_text xs) (path_text ys)))

pub path_text-next : (s : Kept) (ss : List Kept)
    → path_text (reverse (map step_of (s ∷ ss)))
    ≡ path_text (reverse (map step_of ss)) ++ step_text (step_of s)
path_text-next s ss =
    ap path_text (reverse-append (step_of s ∷ []) (map step_of ss))
    ∙ path_text-append (reverse (map step_of ss)) (step_of s ∷ [])
    ∙ ap (λ t. path_text (reverse (map step_of ss)) ++ t) (append-nil (step_text (step_of s)))

pub path_text-back : (ss : List Kept) (i j : ℕ) (d : Kept) → i < length ss → i + 1 ≡ j
    → path_text (reverse (map step_of (drop i ss)))
    ≡ path_text (reverse (map step_of (drop j ss))) ++ step_text (step_of (get_or ss i d))
path_text-back ss i j d h e = ap (λ xs. path_text (reverse (map step_of xs))) (drop_more ss i d h)
    ∙ path_text-next (get_or ss i d) (drop (i + 1) ss)
    ∙ ap (λ k. path_text (reverse (map step_of (drop k ss))) ++ step_text (step_of (get_or ss i d)))
    e
