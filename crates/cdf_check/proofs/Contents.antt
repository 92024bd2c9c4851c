-- What a JSON string of a UTF-8 text stands for is UTF-8.
use Rattle.std.proofs.Common.{◌≡◌, ◌<◌, ◌≤◌, ℕ, List, [], ◌∷◌, ◌++◌, length, get_or}
use Rattle.std.proofs.Common.{Bool, true, false, cond, ◌&&◌, ◌==◌, Option, Some, None, IsUtf8}
use Rattle.std.proofs.Common.{refl, sym, ap, subst, arith, append_assoc, append-nil, length-append}
use Rattle.std.proofs.Math.Seq.{take-append_seam, drop-append_seam, get_or-append_seam}
use Rattle.std.proofs.Math.Utf8.{scalar, low_scalar}
use Rattle.std.proofs.lemmas.Bool.Decides.{nat_tests}
use Rattle.std.proofs.lemmas.Str.{IsUtf8-append, IsUtf8-encode, IsUtf8-take, IsUtf8-drop}
use Rattle.std.proofs.lemmas.Str.{IsUtf8-past_char, IsCharBoundary-before_ascii, encode_ascii}
use Rattle.std.proofs.lemmas.Option.{same_Some, cond_some}
use Rattle.std.specs.Prelude.{option_and_then}
use Rattle.std.specs.Char.{digit_value, is_digit, encode_utf8}
use Rattle.json.specs.Text.{Within, plain, after_backslash, after_u, after_high, content, prepend}
use Rattle.json.specs.Text.{code_unit, short_escape, is_high_surrogate, is_low_surrogate}
use Rattle.json.specs.Text.{surrogate_pair}

-- ---- cutting at an ASCII byte

pub of_ascii : (c : ℕ) → c < 128 → IsUtf8 (c ∷ [])
of_ascii c h = subst IsUtf8 (encode_ascii c h) (IsUtf8-encode c (low_scalar c (omega (arith, h))))

pub past_ascii : (c : ℕ) (ys : List ℕ) → c < 128 → IsUtf8 (c ∷ ys) → IsUtf8 ys
past_ascii c ys h u = IsUtf8-past_char (c ∷ ys) ys c u (ap (λ l. l ++ ys) (sym (encode_ascii c h)))

-- what stands before an ASCII byte, and what stands after it
pub cut : (xs ys : List ℕ) (c : ℕ) → c < 128 → IsUtf8 (xs ++ c ∷ ys) → IsUtf8 xs × IsUtf8 ys
cut xs ys c small u =
    let at : get_or (xs ++ c ∷ ys) (length xs) 0 < 128 =
    subst (λ x. x < 128) (sym (get_or-append_seam xs c ys 0)) small in
    let within : length xs < length (xs ++ c ∷ ys) = omega (arith, length-append xs (c ∷ ys)) in
    let b = IsCharBoundary-before_ascii (xs ++ c ∷ ys) (length xs) within at in (
      subst IsUtf8 (take-append_seam xs (c ∷ ys)) (IsUtf8-take (xs ++ c ∷ ys) (length xs) u b),
      past_ascii c ys small (subst IsUtf8 (drop-append_seam xs (c ∷ ys))
          (IsUtf8-drop (xs ++ c ∷ ys) (length xs) u b)),
    )

-- ---- code units

hex_ascii : (a : ℕ) → is_digit a 16 ≡ true → (a < 128) × (digit_value a < 16)
hex_ascii a h = (grind (arith, nat_tests, h), grind (arith, nat_tests, h))

-- what four hex digits stand for
pub record IsUnit (a b c d u : ℕ) : Type 0 where
  pub first : a < 128
  pub second : b < 128
  pub third : c < 128
  pub fourth : d < 128
  pub small : u < 65536

all_four : (p q r s : Bool) → (p && q && r && s) ≡ true
    → (p ≡ true) × (q ≡ true) × (r ≡ true) × (s ≡ true)
all_four p q r s e = grind arith

code_unit_is : (a b c d u : ℕ) → code_unit a b c d ≡ Some u → IsUnit a b c d u
unfolding code_unit
code_unit_is a b c d u e =
    let p = cond_some (is_digit a 16 && is_digit b 16 && is_digit c 16 && is_digit d 16) _ u e in
    let q = all_four (is_digit a 16) (is_digit b 16) (is_digit c 16) (is_digit d 16) p.0 in
    let ha = hex_ascii a q.0 in
    let hb = hex_ascii b q.1 in
    let hc = hex_ascii c q.2 in
    let hd = hex_ascii d q.3 in
    record {
      first = ha.0;
      second = hb.0;
      third = hc.0;
      fourth = hd.0;
      small = omega (arith, p.1, ha.1, hb.1, hc.1, hd.1);
    }

high_scalar : (u : ℕ) → 57344 ≤ u → u < 1114112 → scalar u ≡ true
high_scalar u h k = grind (arith, nat_tests, h, k)

unit_scalar : (u : ℕ) → u < 65536 → is_high_surrogate u ≡ false → is_low_surrogate u ≡ false
    → scalar u ≡ true
unit_scalar u h p q = grind (arith, nat_tests, h, p, q)

pair_scalar : (h l : ℕ) → h < 0xdc00 → is_low_surrogate l ≡ true
    → scalar (surrogate_pair h l) ≡ true
pair_scalar h l small low =
    let q : l < 0xe000 = grind (arith, nat_tests, low) in
    high_scalar (surrogate_pair h l) (omega (arith, small, q)) (omega (arith, small, q))

-- ---- short escapes

short_ascii : (x c : ℕ) → short_escape x ≡ Some c → (x < 128) × (c < 128)
unfolding short_escape
short_ascii x c e = (grind (arith, nat_tests, e), grind (arith, nat_tests, e))

-- ---- contents

-- what is known where a string goes on: of the bytes that were taken, and of the text that is left
abbrev Ok : Within → List ℕ → List ℕ → Type 0
Ok plain p xs = IsUtf8 (p ++ xs)
Ok after_backslash p xs = IsUtf8 p × IsUtf8 xs
Ok after_u p xs = IsUtf8 p × IsUtf8 xs
Ok (after_high h) p xs = IsUtf8 p × IsUtf8 xs × (h < 0xdc00)

-- so far p, and what follows is UTF-8 with it
abbrev Gives : Within → List ℕ → Type 0
Gives w xs = (p s : List ℕ) → Ok w p xs → content w xs ≡ Some s → IsUtf8 (p ++ s)

prepended : (bytes s : List ℕ) (o : Option (List ℕ)) → prepend bytes o ≡ Some s
    → (t : List ℕ) × (o ≡ Some t) × (bytes ++ t ≡ s)
prepended bytes s None e = absurd (cc)
prepended bytes s (Some t) e = (t, refl, cc)

-- bytes of their own, and then plain ones
spelled : (bytes p s xs : List ℕ) → IsUtf8 p → IsUtf8 bytes → IsUtf8 xs → Gives plain xs
    → prepend bytes (content plain xs) ≡ Some s → IsUtf8 (p ++ s)
spelled bytes p s xs u v w next e =
    let q = prepended bytes s (content plain xs) e in
    subst (λ t. IsUtf8 (p ++ t)) q.2 (IsUtf8-append p (bytes ++ q.0) u
    (IsUtf8-append bytes q.0 v (next [] q.0 w q.1)))

plain_step : (x : ℕ) (xs : List ℕ) → Gives after_backslash xs → Gives plain xs → (q b c : Bool)
    → (x == 34) ≡ q → (x == 92) ≡ b
    → (p s : List ℕ) → IsUtf8 (p ++ x ∷ xs)
    → cond q (Some []) (cond b (content after_backslash xs)
    (cond c None (prepend (x ∷ []) (content plain xs)))) ≡ Some s
    → IsUtf8 (p ++ s)
plain_step x xs back next true b c hq hb p s u e =
    let small : x < 128 = grind (arith, nat_tests, hq) in
    subst (λ t. IsUtf8 (p ++ t)) (same_Some [] s e)
    (subst IsUtf8 (sym (append-nil p)) (cut p xs x small u).0)
plain_step x xs back next false true c hq hb p s u e =
    let small : x < 128 = grind (arith, nat_tests, hb) in
    back p s (cut p xs x small u) e
plain_step x xs back next false false true hq hb p s u e = absurd (cc)
plain_step x xs back next false false false hq hb p s u e =
    let q = prepended (x ∷ []) s (content plain xs) e in
    let more = next (p ++ x ∷ []) q.0 (subst IsUtf8 (sym (append_assoc p (x ∷ []) xs)) u) q.1 in
    subst (λ t. IsUtf8 (p ++ t)) q.2 (subst IsUtf8 (append_assoc p (x ∷ []) q.0) more)

short_step : (x : ℕ) (xs : List ℕ) → Gives plain xs → (o : Option ℕ) → short_escape x ≡ o
    → (p s : List ℕ) → IsUtf8 p → IsUtf8 (x ∷ xs)
    → option_and_then (λ c. prepend (c ∷ []) (content plain xs)) o ≡ Some s → IsUtf8 (p ++ s)
short_step x xs next None is p s u v e = absurd (cc)
short_step x xs next (Some c) is p s u v e =
    let h = short_ascii x c is in
    spelled (c ∷ []) p s xs u (of_ascii c h.1) (past_ascii x xs h.0 v) next e

backslash_step : (x : ℕ) (xs : List ℕ) → Gives after_u xs → Gives plain xs → (b : Bool)
    → (x == 117) ≡ b
    → (p s : List ℕ) → IsUtf8 p → IsUtf8 (x ∷ xs)
    → cond b (content after_u xs) (option_and_then (λ c. prepend (c ∷ []) (content plain xs))
    (short_escape x)) ≡ Some s
    → IsUtf8 (p ++ s)
backslash_step x xs unit next true is p s u v e =
    let small : x < 128 = grind (arith, nat_tests, is) in
    unit p s (u, past_ascii x xs small v) e
backslash_step x xs unit next false is p s u v e =
    short_step x xs next (short_escape x) refl p s u v e

-- past four hex digits
past_unit : (a b c d u : ℕ) (xs : List ℕ) → IsUnit a b c d u → IsUtf8 (a ∷ b ∷ c ∷ d ∷ xs)
    → IsUtf8 xs
past_unit a b c d u xs h v =
    past_ascii d xs h.fourth (past_ascii c _ h.third
    (past_ascii b _ h.second (past_ascii a _ h.first v)))

unit_kind : (u : ℕ) (xs : List ℕ) → ((h : ℕ) → Gives (after_high h) xs) → Gives plain xs → u < 65536
    → (b c : Bool)
    → is_high_surrogate u ≡ b → is_low_surrogate u ≡ c → (p s : List ℕ) → IsUtf8 p → IsUtf8 xs
    → cond b (content (after_high u) xs) (cond c None (prepend (encode_utf8 u) (content plain xs)))
    ≡ Some s → IsUtf8 (p ++ s)
unit_kind u xs high next small true c hb hc p s v w e =
    let below : u < 0xdc00 = grind (arith, nat_tests, hb) in
    high u p s (v, w, below) e
unit_kind u xs high next small false true hb hc p s v w e = absurd (cc)
unit_kind u xs high next small false false hb hc p s v w e =
    spelled (encode_utf8 u) p s xs v (IsUtf8-encode u (unit_scalar u small hb hc)) w next e

unit_step : (a b c d : ℕ) (xs : List ℕ) → ((h : ℕ) → Gives (after_high h) xs) → Gives plain xs
    → (o : Option ℕ)
    → code_unit a b c d ≡ o → (p s : List ℕ) → IsUtf8 p → IsUtf8 (a ∷ b ∷ c ∷ d ∷ xs)
    → option_and_then (λ u. cond (is_high_surrogate u) (content (after_high u) xs)
    (cond (is_low_surrogate u) None (prepend (encode_utf8 u) (content plain xs)))) o ≡ Some s
    → IsUtf8 (p ++ s)
unit_step a b c d xs high next None is p s v w e = absurd (cc)
unit_step a b c d xs high next (Some u) is p s v w e =
    let h = code_unit_is a b c d u is in
    unit_kind u xs high next h.small (is_high_surrogate u) (is_low_surrogate u) refl refl p s v
    (past_unit a b c d u xs h w) e

low_kind : (h l : ℕ) (xs : List ℕ) → Gives plain xs → h < 0xdc00 → (b : Bool)
    → is_low_surrogate l ≡ b
    → (p s : List ℕ) → IsUtf8 p → IsUtf8 xs
    → cond b (prepend (encode_utf8 (surrogate_pair h l)) (content plain xs)) None ≡ Some s
    → IsUtf8 (p ++ s)
low_kind h l xs next small true is p s v w e =
    spelled (encode_utf8 (surrogate_pair h l)) p s xs v
    (IsUtf8-encode (surrogate_pair h l) (pair_scalar h l small is)) w next e
low_kind h l xs next small false is p s v w e = absurd (cc)

low_step : (h a b c d : ℕ) (xs : List ℕ) → Gives plain xs → h < 0xdc00 → (o : Option ℕ)
    → code_unit a b c d ≡ o
    → (p s : List ℕ) → IsUtf8 p → IsUtf8 (a ∷ b ∷ c ∷ d ∷ xs)
    → option_and_then (λ l. cond (is_low_surrogate l)
    (prepend (encode_utf8 (surrogate_pair h l)) (content plain xs)) None) o ≡ Some s
    → IsUtf8 (p ++ s)
low_step h a b c d xs next small None is p s v w e = absurd (cc)
low_step h a b c d xs next small (Some l) is p s v w e =
    low_kind h l xs next small (is_low_surrogate l) refl p s v
    (past_unit a b c d l xs (code_unit_is a b c d l is) w) e

pair_step : (h x y a b c d : ℕ) (xs : List ℕ) → Gives plain xs → h < 0xdc00 → (q r : Bool)
    → (x == 92) ≡ q → (y == 117) ≡ r
    → (p s : List ℕ) → IsUtf8 p → IsUtf8 (x ∷ y ∷ a ∷ b ∷ c ∷ d ∷ xs)
    → cond (q && r) (option_and_then (λ l.
    cond (is_low_surrogate l) (prepend (encode_utf8 (surrogate_pair h l)) (content plain xs))
    None)
    (code_unit a b c d)) None ≡ Some s
    → IsUtf8 (p ++ s)
pair_step h x y a b c d xs next small true true hq hr p s v w e =
    let first : x < 128 = grind (arith, nat_tests, hq) in
    let second : y < 128 = grind (arith, nat_tests, hr) in
    low_step h a b c d xs next small (code_unit a b c d) refl p s v
    (past_ascii y _ second (past_ascii x _ first w)) e
pair_step h x y a b c d xs next small true false hq hr p s v w e = absurd (cc)
pair_step h x y a b c d xs next small false r hq hr p s v w e = absurd (cc)

content_utf8 : (w : Within) (xs : List ℕ) → Gives w xs
unfolding content
content_utf8 plain [] p s u e = absurd (cc)
content_utf8 plain (x ∷ xs) p s u e =
    plain_step x xs (content_utf8 after_backslash xs) (content_utf8 plain xs) (x == 34) (x == 92) _
    refl refl p s u e
content_utf8 after_backslash [] p s u e = absurd (cc)
content_utf8 after_backslash (x ∷ xs) p s u e =
    backslash_step x xs (content_utf8 after_u xs) (content_utf8 plain xs) (x == 117) refl p s u.0
    u.1 e
content_utf8 after_u [] p s u e = absurd (cc)
content_utf8 after_u (a ∷ []) p s u e = absurd (cc)
content_utf8 after_u (a ∷ b ∷ []) p s u e = absurd (cc)
content_utf8 after_u (a ∷ b ∷ c ∷ []) p s u e = absurd (cc)
content_utf8 after_u (a ∷ b ∷ c ∷ d ∷ xs) p s u e =
    unit_step a b c d xs (λ h. content_utf8 (after_high h) xs) (content_utf8 plain xs)
    (code_unit a b c d) refl p s u.0 u.1 e
content_utf8 (after_high h) [] p s u e = absurd (cc)
content_utf8 (after_high h) (x ∷ []) p s u e = absurd (cc)
content_utf8 (after_high h) (x ∷ y ∷ []) p s u e = absurd (cc)
content_utf8 (after_high h) (x ∷ y ∷ a ∷ []) p s u e = absurd (cc)
content_utf8 (after_high h) (x ∷ y ∷ a ∷ b ∷ []) p s u e = absurd (cc)
content_utf8 (after_high h) (x ∷ y ∷ a ∷ b ∷ c ∷ []) p s u e = absurd (cc)
content_utf8 (after_high h) (x ∷ y ∷ a ∷ b ∷ c ∷ d ∷ xs) p s u e =
    pair_step h x y a b c d xs (content_utf8 plain xs) u.2 (x == 92) (y == 117) refl refl p s u.0
    u.1 e

-- a string's content is UTF-8 where the text after its quote is
pub string_utf8 : (xs s : List ℕ) → IsUtf8 xs → content plain xs ≡ Some s → IsUtf8 s
string_utf8 xs s u e = content_utf8 plain xs [] s u e
