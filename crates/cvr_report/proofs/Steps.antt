-- One byte of a pass.
use Rattle.std.proofs.Common.{◌≡◌, ◌≢◌, ℕ, ◌+◌, ◌<◌, ◌≤◌, min, ◌⊎◌, inl, inr, true, false, List, []}
use Rattle.std.proofs.Common.{◌∷◌, length, get_or, drop, refl, sym, ap, ◌∙◌, arith}
use Rattle.std.proofs.lemmas.List.{drop_more, drop_all}
use Rattle.std.proofs.lemmas.Bool.{cases_lt, ne_eqb}
use Rattle.cvr_report.specs.Scan.{Mode, Between, InString, Escaped, left_after, stops, next_mode}
use Rattle.cvr_report.specs.Scan.{next_depth}

after_cons : (m : Mode) (n x : ℕ) (xs : List ℕ) → stops m n x ≡ false
    → left_after m n (x ∷ xs) ≡ left_after (next_mode m x) (next_depth m n x) xs
unfolding left_after
after_cons m n x xs e = rw e

stop_cons : (m : Mode) (n x : ℕ) (xs : List ℕ) → stops m n x ≡ true
    → left_after m n (x ∷ xs) ≡ x ∷ xs
unfolding left_after
stop_cons m n x xs e = rw e

after_nil : (m : Mode) (n : ℕ) → left_after m n [] ≡ []
unfolding left_after
after_nil m n = refl

one_byte : (m : Mode) (n : ℕ) (text : List ℕ) (at : ℕ) → at < length text
    → stops m n (get_or text at 0) ≡ false
    → left_after m n (drop at text) ≡ left_after (next_mode m (get_or text at 0))
    (next_depth m n (get_or text at 0)) (drop (at + 1) text)
one_byte m n text at h e = ap (left_after m n) (drop_more text at 0 h)
    ∙ after_cons m n (get_or text at 0) (drop (at + 1) text) e

pub stop_byte : (m : Mode) (n : ℕ) (text : List ℕ) (at : ℕ) → at < length text
    → stops m n (get_or text at 0) ≡ true → left_after m n (drop at text) ≡ drop at text
stop_byte m n text at h e = ap (left_after m n) (drop_more text at 0 h)
    ∙ stop_cons m n (get_or text at 0) (drop (at + 1) text) e ∙ sym (drop_more text at 0 h)

pub no_byte : (m : Mode) (n : ℕ) (text : List ℕ) (at : ℕ) → length text ≤ at
    → left_after m n (drop at text) ≡ drop at text
no_byte m n text at h =
    ap (left_after m n) (drop_all at text h) ∙ after_nil m n ∙ sym (drop_all at text h)

-- ---- a string

next_inside : (x : ℕ) → x ≢ 34 → x ≢ 92 → next_mode InString x ≡ InString
next_inside x q b = rw (ne_eqb x 34 q, ne_eqb x 92 b)

pub inner_byte : (n : ℕ) (text : List ℕ) (at : ℕ) → at < length text → get_or text at 0 ≢ 34
    → get_or text at 0 ≢ 92 → left_after InString n (drop at text)
    ≡ left_after InString n (drop (at + 1) text)
inner_byte n text at h q b = one_byte InString n text at h refl
    ∙ ap (λ m. left_after m n (drop (at + 1) text)) (next_inside (get_or text at 0) q b)

-- behind a backslash as the last byte, and one byte past it, nothing is left
escape_cut : (n : ℕ) (text : List ℕ) (at : ℕ) → at < length text → length text ≤ at + 1
    → left_after InString n (drop at text) ≡ left_after InString n (drop (length text) text)
escape_cut n text at h l =
    let last : length text ≡ at + 1 = omega arith in
    one_byte InString n text at h refl ∙ no_byte (next_mode InString (get_or text at 0)) n text
    (at + 1) l ∙ ap (λ k. drop k text) (sym last)
    ∙ sym (no_byte InString n text (length text) (omega arith))

escape_whole : (n : ℕ) (text : List ℕ) (at : ℕ) → at < length text → at + 1 < length text
    → get_or text at 0 ≡ 92 → left_after InString n (drop at text)
    ≡ left_after InString n (drop (at + 2) text)
escape_whole n text at h l e =
    let two : at + 1 + 1 ≡ at + 2 = omega arith in
    one_byte InString n text at h refl ∙ ap
    (λ x. left_after (next_mode InString x) n (drop (at + 1) text)) e
    ∙ one_byte Escaped n text (at + 1) l refl
    ∙ ap (λ k. left_after InString n (drop k text)) two

pub escape_passed : (n : ℕ) (text : List ℕ) (at to : ℕ) → at < length text → get_or text at 0 ≡ 92
    → to ≡ min (at + 2) (length text) → left_after InString n (drop at text)
    ≡ left_after InString n (drop to text)
escape_passed n text at to h e is = go (cases_lt (at + 1) (length text))
  where
    go : (at + 1 < length text) ⊎ (length text ≤ at + 1)
        → left_after InString n (drop at text) ≡ left_after InString n (drop to text)
    go (inl l) =
        let whole : at + 2 ≡ to = omega (arith, is) in
        escape_whole n text at h l e ∙ ap (λ k. left_after InString n (drop k text)) whole
    go (inr l) =
        let all : length text ≡ to = omega (arith, is) in
        escape_cut n text at h l ∙ ap (λ k. left_after InString n (drop k text)) all

pub last_quote : (n : ℕ) (text : List ℕ) (at : ℕ) → at < length text → get_or text at 0 ≡ 34
    → left_after InString n (drop at text) ≡ left_after Between n (drop (at + 1) text)
last_quote n text at h e = one_byte InString n text at h refl
    ∙ ap (λ x. left_after (next_mode InString x) n (drop (at + 1) text)) e

pub no_quote : (n : ℕ) (text : List ℕ) (at : ℕ) → length text ≤ at
    → left_after InString n (drop at text) ≡ left_after Between n (drop at text)
no_quote n text at h = no_byte InString n text at h ∙ sym (no_byte Between n text at h)

-- ---- between strings

pub first_quote : (n : ℕ) (text : List ℕ) (at : ℕ) → at < length text
    → stops Between n (get_or text at 0) ≡ false → get_or text at 0 ≡ 34
    → left_after Between n (drop at text) ≡ left_after InString n (drop (at + 1) text)
first_quote n text at h s e = one_byte Between n text at h s
    ∙ ap (λ x. left_after (next_mode Between x) (next_depth Between n x) (drop (at + 1) text)) e

next_between : (x : ℕ) → x ≢ 34 → next_mode Between x ≡ Between
next_between x q = rw (ne_eqb x 34 q)

pub outer_byte : (n : ℕ) (text : List ℕ) (at : ℕ) → at < length text
    → stops Between n (get_or text at 0) ≡ false → get_or text at 0 ≢ 34
    → left_after Between n (drop at text)
    ≡ left_after Between (next_depth Between n (get_or text at 0)) (drop (at + 1) text)
outer_byte n text at h s q = one_byte Between n text at h s
    ∙ ap (λ m. left_after m (next_depth Between n (get_or text at 0)) (drop (at + 1) text))
    (next_between (get_or text at 0) q)
