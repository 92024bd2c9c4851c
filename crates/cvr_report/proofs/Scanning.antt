-- The pass goes over a whole value.
use Rattle.std.proofs.Common.{◌≡◌, ℕ, zero, suc, ◌<◌, ◌≤◌, ◌^◌, Bool, true, false, pos, negsuc}
use Rattle.std.proofs.Common.{◌&&◌, List, [], ◌∷◌, ◌++◌, length, get_or, decimal, inl, inr, ◌⊎◌}
use Rattle.std.proofs.Common.{refl, sym, ap, ◌∙◌, subst, arith, append_assoc}
use Rattle.std.proofs.lemmas.Bool.{cases_eq, cases_lt, ne_eqb, and_parts}
use Rattle.std.proofs.lemmas.Fmt.{decimal_is_IsNumeral}
use Rattle.std.proofs.lemmas.Str.Parse.{digit_at}
use Rattle.json.specs.Print.{escape, escape_byte, quoted}
use Rattle.json.proofs.Printed.Strings.{escape_byte_plain}
use Rattle.serde_json.specs.Data.{Num, unsigned, negative, float, Data, null, boolean, number}
use Rattle.serde_json.specs.Data.{string, array, object, Items, no_items, item, Members, no_members}
use Rattle.serde_json.specs.Data.{member}
use Rattle.serde_json.specs.Written.{number_text, compact_text, items_text, members_text, comma_if}
use Rattle.cdf_parts.specs.Proper.{NumFits, IsWell, ItemsAreWell, MembersAreWell}
use Rattle.cvr_report.specs.Scan.{Between, InString, Mode, Escaped, left_after, stops}
use Rattle.cvr_report.specs.Scan.{next_mode, next_depth}

-- ---- strings

abbrev Passes : ℕ → Type 0
Passes x = (n : ℕ) (r : List ℕ) → left_after InString n (escape_byte x ++ r)
    ≡ left_after InString n r

-- a test holds of each number below n
abbrev pub all_below : (ℕ → Bool) → ℕ → Bool
all_below test zero = true
all_below test (suc n) = test n && all_below test n

pub below_all : (test : ℕ → Bool) (n : ℕ) → all_below test n ≡ true → (x : ℕ) → x < n
    → test x ≡ true
below_all test zero h x lt = absurd (omega arith)
below_all test (suc n) h x lt = go (below_all test n (and_parts _ _ h).1 x) (cases_eq x n)
  where
    go : (x < n → test x ≡ true) → (x ≡ n) ⊎ (x ≡ n → ⊥) → test x ≡ true
    go below (inl e) = subst (λ y. test y ≡ true) (sym e) (and_parts _ _ h).0
    go below (inr ne) = below (omega arith)

-- bytes that lead from within a string back into it
abbrev leads_back : Mode → List ℕ → Bool
leads_back InString [] = true
leads_back Between [] = false
leads_back Escaped [] = false
leads_back Between (x ∷ xs) = false
leads_back InString (x ∷ xs) = leads_back (next_mode InString x) xs
leads_back Escaped (x ∷ xs) = leads_back InString xs

back_in : (m : Mode) (xs : List ℕ) → leads_back m xs ≡ true → (n : ℕ) (r : List ℕ)
    → left_after m n (xs ++ r) ≡ left_after InString n r
unfolding left_after
back_in InString [] h n r = refl
back_in Between [] h n r = cc
back_in Escaped [] h n r = cc
back_in Between (x ∷ xs) h n r = cc
back_in InString (x ∷ xs) h n r = back_in (next_mode InString x) xs h n r
back_in Escaped (x ∷ xs) h n r = back_in InString xs h n r

escapes_lead_back : all_below (λ x. leads_back InString (escape_byte x)) 93 ≡ true
unfolding escape_byte
escapes_lead_back = refl

inside : (x n : ℕ) (r : List ℕ) → (x ≡ 34 → ⊥) → (x ≡ 92 → ⊥)
    → left_after InString n (x ∷ r) ≡ left_after InString n r
unfolding left_after
inside x n r q b = rw (ne_eqb x 34 q, ne_eqb x 92 b)

plain_passes : (x : ℕ) → (x ≡ 34 → ⊥) → (x ≡ 92 → ⊥) → 32 ≤ x → Passes x
plain_passes x q b l n r =
    ap (λ s. left_after InString n (s ++ r)) (escape_byte_plain x q b l) ∙ inside x n r q b

passes : (x : ℕ) → Passes x
passes x = go (cases_lt x 93)
  where
    go : (x < 93) ⊎ (93 ≤ x) → Passes x
    go (inl l) = back_in InString (escape_byte x)
        (below_all (λ y. leads_back InString (escape_byte y)) 93 escapes_lead_back x l)
    go (inr l) = plain_passes x (λ e. omega arith) (λ e. omega arith) (omega arith)

pub after-escape : (s : List ℕ) (n : ℕ) (r : List ℕ)
    → left_after InString n (escape s ++ 34 ∷ r) ≡ left_after Between n r
unfolding left_after
after-escape [] n r = refl
after-escape (x ∷ s) n r = ap (left_after InString n)
    (append_assoc (escape_byte x) (escape s) (34 ∷ r)) ∙ passes x n _ ∙ after-escape s n r

-- ---- plain bytes between

opened : (x n : ℕ) (xs : List ℕ) → stops Between n x ≡ false
    → left_after Between n (x ∷ xs) ≡ left_after (next_mode Between x) (next_depth Between n x) xs
unfolding left_after
opened x n xs e = rw e

no_stop : (n x : ℕ) → (x ≡ 44 → ⊥) → (x ≡ 125 → ⊥) → stops Between n x ≡ false
no_stop zero x a b = rw (ne_eqb x 44 a, ne_eqb x 125 b)
no_stop (suc n) x a b = refl

plain : (x n : ℕ) (xs : List ℕ) → (x ≡ 34 → ⊥) → (x ≡ 44 → ⊥) → (x ≡ 91 → ⊥) → (x ≡ 93 → ⊥)
    → (x ≡ 123 → ⊥) → (x ≡ 125 → ⊥) → left_after Between n (x ∷ xs) ≡ left_after Between n xs
plain x n xs q c o p s t = opened x n xs (no_stop n x c t)
    ∙ rw (ne_eqb x 34 q, ne_eqb x 91 o, ne_eqb x 123 s, ne_eqb x 93 p, ne_eqb x 125 t)

letter : (x n : ℕ) (xs : List ℕ) → 96 < x → x < 123
    → left_after Between n (x ∷ xs) ≡ left_after Between n xs
letter x n xs l h = plain x n xs (λ e. omega arith) (λ e. omega arith) (λ e. omega arith)
    (λ e. omega arith) (λ e. omega arith) (λ e. omega arith)

digit : (x n : ℕ) (xs : List ℕ) → 44 < x → x < 60
    → left_after Between n (x ∷ xs) ≡ left_after Between n xs
digit x n xs l h = plain x n xs (λ e. omega arith) (λ e. omega arith) (λ e. omega arith)
    (λ e. omega arith) (λ e. omega arith) (λ e. omega arith)

digits_pass : (ds : List ℕ) (n : ℕ) (r : List ℕ)
    → ((i : ℕ) → i < length ds → (48 ≤ get_or ds i 0) × (get_or ds i 0 ≤ 57))
    → left_after Between n (ds ++ r) ≡ left_after Between n r
digits_pass [] n r h = refl
digits_pass (d ∷ ds) n r h =
    let first = h 0 (omega arith) in
    digit d n (ds ++ r) (omega arith) (omega arith)
    ∙ digits_pass ds n r (λ i l. h (suc i) (omega arith))

decimal_pass : (m n : ℕ) (r : List ℕ) → m < 2 ^ 64
    → left_after Between n (decimal m ++ r) ≡ left_after Between n r
decimal_pass m n r h =
    digits_pass (decimal m) n r (λ i l. digit_at (decimal m) i (decimal_is_IsNumeral m h).0.1 l)

number_pass : (x : Num) (n : ℕ) (r : List ℕ) → NumFits x
    → left_after Between n (number_text x ++ r) ≡ left_after Between n r
number_pass (unsigned m) n r h = decimal_pass m n r h
number_pass (negative (pos m)) n r h = absurd h
number_pass (negative (negsuc m)) n r h = digit 45 n (decimal (suc m) ++ r) (omega arith)
    (omega arith) ∙ decimal_pass (suc m) n r (omega arith)
number_pass (float x) n r h = refl

word_pass : (a b c d n : ℕ) (r : List ℕ) → (96 < a) × (a < 123) → (96 < b) × (b < 123)
    → (96 < c) × (c < 123) → (96 < d) × (d < 123)
    → left_after Between n (a ∷ b ∷ c ∷ d ∷ r) ≡ left_after Between n r
word_pass a b c d n r p q s t =
    letter a n _ p.0 p.1 ∙ letter b n _ q.0 q.1 ∙ letter c n _ s.0 s.1 ∙ letter d n _ t.0 t.1

true_pass : (n : ℕ) (r : List ℕ) → left_after Between n (116 ∷ 114 ∷ 117 ∷ 101 ∷ r)
    ≡ left_after Between n r
true_pass n r = word_pass 116 114 117 101 n r (omega arith, omega arith) (omega arith, omega arith)
    (omega arith, omega arith) (omega arith, omega arith)

null_pass : (n : ℕ) (r : List ℕ) → left_after Between n (110 ∷ 117 ∷ 108 ∷ 108 ∷ r)
    ≡ left_after Between n r
null_pass n r = word_pass 110 117 108 108 n r (omega arith, omega arith) (omega arith, omega arith)
    (omega arith, omega arith) (omega arith, omega arith)

false_pass : (n : ℕ) (r : List ℕ) → left_after Between n (102 ∷ 97 ∷ 108 ∷ 115 ∷ 101 ∷ r)
    ≡ left_after Between n r
false_pass n r = letter 102 n _ (omega arith) (omega arith)
    ∙ word_pass 97 108 115 101 n r (omega arith, omega arith) (omega arith, omega arith)
    (omega arith, omega arith) (omega arith, omega arith)

pub quoted_pass : (s : List ℕ) (n : ℕ) (r : List ℕ)
    → left_after Between n (quoted s ++ r) ≡ left_after Between n r
quoted_pass s n r = opened 34 n _ (no_stop n 34 (λ e. omega arith) (λ e. omega arith))
    ∙ ap (left_after InString n) (append_assoc (escape s) (34 ∷ []) r) ∙ after-escape s n r

comma_pass : (later : Bool) (n : ℕ) (r : List ℕ)
    → left_after Between (suc n) (comma_if later ++ r) ≡ left_after Between (suc n) r
unfolding left_after
comma_pass true n r = refl
comma_pass false n r = refl

colon_pass : (n : ℕ) (r : List ℕ) → left_after Between n (58 ∷ r) ≡ left_after Between n r
colon_pass n r = digit 58 n r (omega arith) (omega arith)

open_array : (n : ℕ) (r : List ℕ) → left_after Between n (91 ∷ r) ≡ left_after Between (suc n) r
open_array n r = opened 91 n r (no_stop n 91 (λ e. omega arith) (λ e. omega arith))

open_object : (n : ℕ) (r : List ℕ) → left_after Between n (123 ∷ r) ≡ left_after Between (suc n) r
open_object n r = opened 123 n r (no_stop n 123 (λ e. omega arith) (λ e. omega arith))

close_array : (n : ℕ) (r : List ℕ) → left_after Between (suc n) (93 ∷ r) ≡ left_after Between n r
unfolding left_after
close_array n r = refl

close_object : (n : ℕ) (r : List ℕ) → left_after Between (suc n) (125 ∷ r) ≡ left_after Between n r
unfolding left_after
close_object n r = refl

mutual
  pub value_pass : (d : Data) (n : ℕ) (r : List ℕ) → IsWell d
      → left_after Between n (compact_text d ++ r) ≡ left_after Between n r
  value_pass null n r h = null_pass n r
  value_pass (boolean true) n r h = true_pass n r
  value_pass (boolean false) n r h = false_pass n r
  value_pass (number x) n r h = number_pass x n r h
  value_pass (string s) n r h = quoted_pass s n r
  value_pass (array ds) n r h = open_array n (items_text false ds ++ r) ∙ items_pass false ds n r h
  value_pass (object ms) n r h =
      open_object n (members_text false ms ++ r) ∙ members_pass false ms n r h

  items_pass : (later : Bool) (ds : Items) (n : ℕ) (r : List ℕ) → ItemsAreWell ds
      → left_after Between (suc n) (items_text later ds ++ r) ≡ left_after Between n r
  items_pass later no_items n r h = close_array n r
  items_pass later (item d ds) n r h =
      ap (left_after Between (suc n)) (append_assoc (comma_if later) _ r) ∙ comma_pass later n _
      ∙ ap (left_after Between (suc n)) (append_assoc (compact_text d) _ r)
      ∙ value_pass d (suc n) _ h.0 ∙ items_pass true ds n r h.1

  members_pass : (later : Bool) (ms : Members) (n : ℕ) (r : List ℕ) → MembersAreWell ms
      → left_after Between (suc n) (members_text later ms ++ r) ≡ left_after Between n r
  members_pass later no_members n r h = close_object n r
  members_pass later (member k d ms) n r h =
      ap (left_after Between (suc n)) (append_assoc (comma_if later) _ r) ∙ comma_pass later n _
      ∙ ap (left_after Between (suc n)) (append_assoc (quoted k) _ r) ∙ quoted_pass k (suc n) _
      ∙ colon_pass (suc n) _
      ∙ ap (left_after Between (suc n)) (append_assoc (compact_text d) _ r)
      ∙ value_pass d (suc n) _ h.0 ∙ members_pass true ms n r h.2

-- at the front of the members that follow, it stops
stops_there : (ms : Members) → left_after Between 0 (members_text true ms) ≡ members_text true ms
unfolding left_after
stops_there no_members = refl
stops_there (member k d ms) = refl

-- from within a member's name to its end
pub member_pass : (k : List ℕ) (d : Data) (ms : Members) → IsWell d
    → left_after InString 0 (escape k ++ 34 ∷ 58 ∷ (compact_text d ++ members_text true ms))
    ≡ members_text true ms
member_pass k d ms h = after-escape k 0 _ ∙ colon_pass 0 _ ∙ value_pass d 0 _ h ∙ stops_there ms
