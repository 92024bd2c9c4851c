-- A name that stands escaped in a text, compared with a plain one.
use Rattle.std.proofs.lemmas.List.{drop_more, drop_all}
use Rattle.std.proofs.Common.{◌≡◌, ℕ, ◌+◌, ◌<◌, ◌≤◌, ◌==◌, Bool, true, false, cond, List, [], ◌∷◌}
use Rattle.std.proofs.Common.{◌++◌, length, drop, get_or, Ordering, Less, Equal, Greater, nat_cmp}
use Rattle.std.proofs.Common.{nat_lt, inl, inr, ◌⊎◌, refl, sym, ap, ◌∙◌, subst, arith, append_assoc}
use Rattle.std.proofs.Common.{lt-ltb, le-ltb, not, ◌&&◌, rules}
use Rattle.std.proofs.lemmas.Bool.{cases_eq, cases_lt, ne_eqb, eq-eqb}
use Rattle.std.specs.Cmp.Lexicographic.{slice_cmp}
use Rattle.std.specs.Ordering.{is_lt, ordering_then}
use Rattle.json.specs.Print.{escape, escape_byte}
use Rattle.json.proofs.Printed.Strings.{escape_byte_plain}
use Rattle.cvr_report.specs.Scan.{is_before, before_escaped, HasNoEscape}
use Rattle.cvr_report.proofs.Scanning.{all_below, below_all}

abbrev decide : ℕ → ℕ → Bool → Bool
decide x m b = cond (nat_lt x m) true (cond (x == m) b false)

-- what the escape of x says beside a plain byte m
abbrev Compares : ℕ → Type 0
Compares x = (m : ℕ) (r ms : List ℕ) → 34 < m → (m ≡ 92 → ⊥)
    → is_before (escape_byte x ++ r) (m ∷ ms) ≡ decide x m (is_before r ms)

below_is : (x m : ℕ) (b : Bool) → x < m → true ≡ decide x m b
below_is x m b h = rw (lt-ltb x m h)

-- an escape but that of the backslash
abbrev Escapes : ℕ → Type 0
Escapes x = (m : ℕ) (r ms : List ℕ) → is_before (escape_byte x ++ r) (m ∷ ms) ≡ true

-- an escape of another byte than the backslash
abbrev is_escape : List ℕ → Bool
is_escape [] = false
is_escape (x ∷ []) = false
is_escape (x ∷ y ∷ ys) = (x == 92) && not (y == 92)

is_below : (e : List ℕ) → is_escape e ≡ true → (m : ℕ) (r ms : List ℕ)
    → is_before (e ++ r) (m ∷ ms) ≡ true
unfolding is_before
is_below e h m r ms = grind (arith, rules)

controls : all_below (λ x. is_escape (escape_byte x)) 32 ≡ true
unfolding escape_byte
controls = refl

quote_escapes : Escapes 34
unfolding is_before escape_byte
quote_escapes m r ms = refl

backslash_compares : Compares 92
unfolding is_before escape_byte
backslash_compares m r ms h n = rw (ne_eqb 92 m (λ e. n (sym e))) (ends (nat_lt 92 m))
  where
    ends : (b : Bool) → b ≡ cond b true false
    ends true = refl
    ends false = refl

one_plain : (x m : ℕ) (r ms : List ℕ) → (x ≡ 34 → ⊥) → (x ≡ 92 → ⊥)
    → is_before (x ∷ r) (m ∷ ms) ≡ cond (x == m) (is_before r ms) (nat_lt x m)
unfolding is_before
one_plain x m r ms q b = rw (ne_eqb x 34 q, ne_eqb x 92 b)

same_decision : (x m : ℕ) (b : Bool) → cond (x == m) b (nat_lt x m) ≡ decide x m b
same_decision x m b = go (cases_eq x m) (cases_lt x m)
  where
    go : (x ≡ m) ⊎ (x ≡ m → ⊥) → (x < m) ⊎ (m ≤ x) → cond (x == m) b (nat_lt x m) ≡ decide x m b
    go (inl e) (inl l) = absurd (omega arith)
    go (inl e) (inr l) = rw (eq-eqb x m e, le-ltb x m l)
    go (inr n) (inl l) = rw (ne_eqb x m n, lt-ltb x m l)
    go (inr n) (inr l) = rw (ne_eqb x m n, le-ltb x m l)

plain_compares : (x : ℕ) → (x ≡ 34 → ⊥) → (x ≡ 92 → ⊥) → 32 ≤ x → Compares x
plain_compares x q b l m r ms h n = ap (λ s. is_before (s ++ r) (m ∷ ms))
    (escape_byte_plain x q b l) ∙ one_plain x m r ms q b ∙ same_decision x m (is_before r ms)

compares : (x : ℕ) → Compares x
compares x = go (cases_eq x 34) (cases_eq x 92) (cases_lt x 32)
  where
    go : (x ≡ 34) ⊎ (x ≡ 34 → ⊥) → (x ≡ 92) ⊎ (x ≡ 92 → ⊥) → (x < 32) ⊎ (32 ≤ x) → Compares x
    go (inl e) b c = λ m r ms h n. subst Escapes (sym e) quote_escapes m r ms
        ∙ below_is x m (is_before r ms) (omega arith)
    go (inr q) (inl e) c = subst Compares (sym e) backslash_compares
    go (inr q) (inr b) (inl c) = λ m r ms h n.
        is_below (escape_byte x) (below_all (λ y. is_escape (escape_byte y)) 32 controls x c) m r ms
        ∙ below_is x m (is_before r ms) (omega arith)
    go (inr q) (inr b) (inr l) = plain_compares x q b l

first_decides : (x m : ℕ) (o : Ordering)
    → decide x m (is_lt o) ≡ is_lt (ordering_then (nat_cmp x m) o)
first_decides x m o = go (nat_lt x m) (x == m)
  where
    go : (a b : Bool) → cond a true (cond b (is_lt o) false)
        ≡ is_lt (ordering_then (cond a Less (cond b Equal Greater)) o)
    go true b = refl
    go false true = refl
    go false false = refl

ended : (r : List ℕ) (m : ℕ) (ms : List ℕ) → is_before (34 ∷ r) (m ∷ ms) ≡ true
unfolding is_before
ended r m ms = refl

no_more : (xs : List ℕ) → is_before xs [] ≡ false
unfolding is_before
no_more xs = refl

-- the test answers whether the name is below
pub is_before-escape : (k name r : List ℕ) → HasNoEscape name
    → is_before (escape k ++ 34 ∷ r) name ≡ is_lt (slice_cmp nat_cmp k name)
is_before-escape [] [] r h = no_more (34 ∷ r)
is_before-escape (x ∷ k) [] r h = no_more (escape (x ∷ k) ++ 34 ∷ r)
is_before-escape [] (m ∷ name) r h = ended r m name
is_before-escape (x ∷ k) (m ∷ name) r h =
    ap (λ s. is_before s (m ∷ name)) (append_assoc (escape_byte x) (escape k) (34 ∷ r))
    ∙ compares x m (escape k ++ 34 ∷ r) name h.0 h.1.0
    ∙ ap (decide x m) (is_before-escape k name r h.1.1)
    ∙ first_decides x m (slice_cmp nat_cmp k name)

-- ---- one byte of the test

pub both_on : (x m : ℕ) (xs ms : List ℕ) → (x ≡ 34 → ⊥) → (x ≡ 92 → ⊥) → x ≡ m
    → is_before (x ∷ xs) (m ∷ ms) ≡ is_before xs ms
both_on x m xs ms q b e = one_plain x m xs ms q b ∙ rw (eq-eqb x m e)

pub opens_both : (text name : List ℕ) (at i : ℕ) → at < length text → i < length name
    → is_before (drop at text) (drop i name)
    ≡ is_before (get_or text at 0 ∷ drop (at + 1) text) (get_or name i 0 ∷ drop (i + 1) name)
opens_both text name at i h k = (λ j. is_before (drop_more text at 0 h j) (drop_more name i 0 k j))

pub at_quote : (x m : ℕ) (xs ms : List ℕ) → x ≡ 34 → is_before (x ∷ xs) (m ∷ ms) ≡ true
unfolding is_before
at_quote x m xs ms e = rw e

pub at_backslash : (x m : ℕ) (xs ms : List ℕ) → x ≡ 92
    → is_before (x ∷ xs) (m ∷ ms) ≡ before_escaped xs m
unfolding is_before
at_backslash x m xs ms e = rw e

pub at_other : (x m : ℕ) (xs ms : List ℕ) → (x ≡ 34 → ⊥) → (x ≡ 92 → ⊥) → (x ≡ m → ⊥)
    → is_before (x ∷ xs) (m ∷ ms) ≡ nat_lt x m
at_other x m xs ms q b n = one_plain x m xs ms q b ∙ rw (ne_eqb x m n)

text_over : (ms : List ℕ) → is_before [] ms ≡ false
unfolding is_before
text_over [] = refl
text_over (m ∷ ms) = refl

pub at_end : (text name : List ℕ) (at i : ℕ) → length text ≤ at
    → is_before (drop at text) (drop i name) ≡ false
at_end text name at i h =
    ap (λ xs. is_before xs (drop i name)) (drop_all at text h) ∙ text_over (drop i name)

pub name_over : (text name : List ℕ) (at i : ℕ) → length name ≤ i
    → is_before (drop at text) (drop i name) ≡ false
name_over text name at i h =
    ap (is_before (drop at text)) (drop_all i name h) ∙ no_more (drop at text)
