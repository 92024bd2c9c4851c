-- The text of a tally is read in one way: each of its words ends where no other could go on.
use Rattle.std.proofs.Common.{◌≡◌, ◌<◌, ◌+◌, ◌^◌, ◌%◌, ℕ, suc, List, [], ◌∷◌, ◌++◌, map, length}
use Rattle.std.proofs.Common.{Bool, true, false, ◌&&◌, nat_lt, nat_le, Option, Some, None, inl}
use Rattle.std.proofs.Common.{inr, refl, sym}
use Rattle.std.proofs.Common.{ap, ◌∙◌, subst, arith, append_assoc}
use Rattle.std.specs.Prelude.{codes, slice_index, slice_index_or}
use Rattle.std.specs.List.{Contains, flat_map, list_all, zip}
use Rattle.std.specs.Fmt.{decimal}
use Rattle.std.specs.FinMap.{entries}
use Rattle.std.specs.Str.Parse.{digits_value}
use Rattle.std.proofs.lemmas.Bool.{false≢true, and_parts}
use Rattle.std.proofs.lemmas.Bool.Decides.{nat_tests}
use Rattle.std.proofs.lemmas.Fmt.{decimal_by_steps_wide, decimal_is_IsNumeral_wide}
use Rattle.std.proofs.lemmas.List.{append_cancel_left}
use Rattle.std.proofs.lemmas.List.Folds.{list_all-append}
use Rattle.json.specs.Print.{escape, quoted}
use Rattle.json.specs.Text.{content, plain}
use Rattle.json.proofs.Printed.Strings.{content-escape}
use Rattle.cdf_parts.specs.Places.{Contest, contest_ids, selections_at}
use Rattle.cvr_fact_types.specs.Columns.{VotesFor, columns}
use Rattle.cvr_facts.proofs.Lemmas.{at_head, at_tail, from_map, head_or_tail, none_listed}
use Rattle.cvr_tally.specs.declared.key.RowKey.{RowKey}
use Rattle.cvr_tally.specs.declared.row.Row.{Row}
use Rattle.cvr_tally.specs.Rows.{number_in}
use Rattle.cvr_tally.specs.Text.{part_text, number, numbers, selection, row_line}
use Rattle.cvr_office.specs.Tallied.{total_limit, IsBelow}
use Rattle.cvr_whole.specs.Lines.{said, OneReadingLaw}

-- ---- words

-- a text, by its closing quote
quoted_once : (s t r q : List ℕ) → quoted s ++ r ≡ quoted t ++ q → (s ≡ t) × (r ≡ q)
quoted_once s t r q is =
    let inside : (escape s ++ 34 ∷ []) ++ r ≡ (escape t ++ 34 ∷ []) ++ q = Prim.cc in
    let after : escape s ++ 34 ∷ r ≡ escape t ++ 34 ∷ q =
    sym (append_assoc (escape s) (34 ∷ []) r)
    ∙ (inside ∙ append_assoc (escape t) (34 ∷ []) q) in
    let found : Some s ≡ Some t =
    sym (content-escape s r) ∙ (ap (content plain) after ∙ content-escape t q) in
    let same : s ≡ t = Prim.cc in
    let rest : 34 ∷ r ≡ 34 ∷ q =
    append_cancel_left (escape s) (34 ∷ r) (34 ∷ q)
    (after ∙ ap (λ u. escape u ++ 34 ∷ q) (sym same)) in
    (same, Prim.cc rest)

-- a unit or a batch
part_once : (o p : Option (List ℕ)) (r q : List ℕ) → part_text o ++ r ≡ part_text p ++ q
    → (o ≡ p) × (r ≡ q)
part_once None None r q is = (refl, append_cancel_left (codes " null") r q is)
part_once None (Some t) r q is =
    let clash : ◌≡◌ {A = ℕ} 110 34 = Prim.cc in absurd (omega (arith, clash))
part_once (Some s) None r q is =
    let clash : ◌≡◌ {A = ℕ} 34 110 = Prim.cc in absurd (omega (arith, clash))
part_once (Some s) (Some t) r q is =
    let text : quoted s ++ r ≡ quoted t ++ q = Prim.cc in
    let parts = quoted_once s t r q text in
    (ap Some parts.0, parts.1)

-- ---- numbers

abbrev is_digit : ℕ → Bool
is_digit b = nat_le 48 b && nat_lt b 58

abbrev goes_on : List ℕ → Bool
goes_on [] = false
goes_on (b ∷ bs) = is_digit b

digits_once : (ds es r q : List ℕ) → list_all is_digit ds ≡ true → list_all is_digit es ≡ true
    → goes_on r ≡ false → goes_on q ≡ false → ds ++ r ≡ es ++ q → (ds ≡ es) × (r ≡ q)
digits_once [] [] r q all each ends stops is = (refl, is)
digits_once [] (e ∷ es) r q all each ends stops is =
    absurd (false≢true (sym ends
    ∙ (ap goes_on is ∙ (and_parts (is_digit e) (list_all is_digit es) each).0)))
digits_once (d ∷ ds) [] r q all each ends stops is =
    absurd (false≢true (sym stops
    ∙ (ap goes_on (sym is) ∙ (and_parts (is_digit d) (list_all is_digit ds) all).0)))
digits_once (d ∷ ds) (e ∷ es) r q all each ends stops is =
    let first : d ≡ e = Prim.cc in
    let more : ds ++ r ≡ es ++ q = Prim.cc in
    let rest = digits_once ds es r q (and_parts (is_digit d) (list_all is_digit ds) all).1
    (and_parts (is_digit e) (list_all is_digit es) each).1 ends stops more in
    ((λ i. first i ∷ rest.0 i), rest.1)

digit : (n : ℕ) → n < 10 → is_digit (48 + n) ≡ true
digit n less = grind (arith, nat_tests)

decimal_digits : (n : ℕ) → n < 10 ^ 64 → list_all is_digit (decimal n) ≡ true
decimal_digits =
    decimal_by_steps_wide (λ n ds. list_all is_digit ds ≡ true)
    (λ n less. ap (λ b. b && true) (digit n less))
    (λ n ds more all. list_all-append is_digit ds ((48 + n % 10) ∷ [])
    ∙ (λ i. all i && (digit (n % 10) (omega arith) i && true)))

number_once : (m n : ℕ) (r q : List ℕ) → m < 10 ^ 64 → n < 10 ^ 64 → goes_on r ≡ false
    → goes_on q ≡ false → number m ++ r ≡ number n ++ q → (m ≡ n) × (r ≡ q)
number_once m n r q low less ends stops is =
    let text : decimal m ++ r ≡ decimal n ++ q = Prim.cc in
    let parts = digits_once (decimal m) (decimal n) r q (decimal_digits m low)
    (decimal_digits n less) ends stops text in (
      sym (decimal_is_IsNumeral_wide m low).1
          ∙ (ap (digits_value 10) parts.0 ∙ (decimal_is_IsNumeral_wide n less).1),
      parts.1,
    )

-- those of a line stay below the limit
abbrev AllBelow : List ℕ → Type 0
AllBelow ns = (n : ℕ) → Contains ns n → n < 10 ^ 64

ends_there : (ns r : List ℕ) → goes_on r ≡ false → goes_on (flat_map number ns ++ r) ≡ false
ends_there [] r ends = ends
ends_there (n ∷ ns) r ends = refl

numbers_once : (ms ns r q : List ℕ) → length ms ≡ length ns → AllBelow ms → AllBelow ns
    → goes_on r ≡ false → goes_on q ≡ false → flat_map number ms ++ r ≡ flat_map number ns ++ q
    → (ms ≡ ns) × (r ≡ q)
numbers_once [] [] r q long low less ends stops is = (refl, is)
numbers_once [] (n ∷ ns) r q long low less ends stops is = absurd (omega (arith, long))
numbers_once (m ∷ ms) [] r q long low less ends stops is = absurd (omega (arith, long))
numbers_once (m ∷ ms) (n ∷ ns) r q long low less ends stops is =
    let first = number_once m n (flat_map number ms ++ r) (flat_map number ns ++ q)
    (low m (at_head m ms)) (less n (at_head n ns)) (ends_there ms r ends) (ends_there ns q stops)
    (sym (append_assoc (number m) (flat_map number ms) r)
    ∙ (is ∙ append_assoc (number n) (flat_map number ns) q)) in
    let rest = numbers_once ms ns r q (omega (arith, long)) (λ k at. low k (at_tail m k ms at))
    (λ k at. less k (at_tail n k ns at)) ends stops first.1 in
    ((λ i. first.0 i ∷ rest.0 i), rest.1)

-- ---- selections

abbrev VotesBelow : List (List ℕ × ℕ) → Type 0
VotesBelow ps = (p : List ℕ × ℕ) → Contains ps p → p.1 < 10 ^ 64

no_more : (ps : List (List ℕ × ℕ)) (r : List ℕ)
    → goes_on (flat_map selection ps ++ 10 ∷ r) ≡ false
no_more [] r = refl
no_more (p ∷ ps) r = refl

in_turn : (a b c d : List ℕ) → ((a ++ b) ++ c) ++ d ≡ a ++ (b ++ (c ++ d))
in_turn a b c d = simp append_assoc

selections_once : (ps qs : List (List ℕ × ℕ)) (r q : List ℕ) → VotesBelow ps → VotesBelow qs
    → flat_map selection ps ++ 10 ∷ r ≡ flat_map selection qs ++ 10 ∷ q → (ps ≡ qs) × (r ≡ q)
selections_once [] [] r q low less is = (refl, Prim.cc is)
selections_once [] (y ∷ ys) r q low less is =
    let clash : ◌≡◌ {A = ℕ} 10 32 = Prim.cc in absurd (omega (arith, clash))
selections_once (x ∷ xs) [] r q low less is =
    let clash : ◌≡◌ {A = ℕ} 32 10 = Prim.cc in absurd (omega (arith, clash))
selections_once (x ∷ xs) (y ∷ ys) r q low less is =
    let text : ((quoted x.0 ++ number x.1) ++ flat_map selection xs) ++ 10 ∷ r
    ≡ ((quoted y.0 ++ number y.1) ++ flat_map selection ys) ++ 10 ∷ q = Prim.cc in
    let id = quoted_once x.0 y.0 _ _
    (sym (in_turn (quoted x.0) (number x.1) (flat_map selection xs) (10 ∷ r))
    ∙ (text ∙ in_turn (quoted y.0) (number y.1) (flat_map selection ys) (10 ∷ q))) in
    let votes = number_once x.1 y.1 _ _ (low x (at_head x xs)) (less y (at_head y ys))
    (no_more xs r) (no_more ys q) id.1 in
    let rest = selections_once xs ys r q (λ p at. low p (at_tail x p xs at))
    (λ p at. less p (at_tail y p ys at)) votes.1 in
    ((λ i. (id.0 i, votes.0 i) ∷ rest.0 i), rest.1)

-- ---- lines

wide : (n : ℕ) → n < total_limit → n < 10 ^ 64
wide n less = omega (arith, less)

votes_below : (ids : List (List ℕ)) (votes : List ℕ)
    → ((place : ℕ) → slice_index votes place < total_limit) → VotesBelow (zip ids votes)
votes_below [] votes low p at = absurd (none_listed p at)
votes_below (id ∷ ids) [] low p at = absurd (none_listed p at)
votes_below (id ∷ ids) (v ∷ votes) low p at =
    elim (head_or_tail (id, v) p (zip ids votes) at) [
      | inl is ↦ subst (λ (p : List ℕ × ℕ). p.1 < 10 ^ 64) is (wide v (low 0))
      | inr more ↦ votes_below ids votes (λ place. low (suc place)) p more
    ]

numbers_below : (row : Row) → IsBelow total_limit row
    → AllBelow (map (λ column. number_in column row) columns)
numbers_below row low n at =
    let column = from_map (λ column. number_in column row) n columns at in
    subst (λ n. n < 10 ^ 64) column.2 (wide (number_in column.0 row) (low column.0))

words : (a u b n v r : List ℕ) → ((a ++ (u ++ b)) ++ (n ++ (v ++ 10 ∷ []))) ++ r
    ≡ a ++ (u ++ (b ++ (n ++ (v ++ 10 ∷ r))))
words a u b n v r = simp append_assoc

module _ (contests others : List Contest) where
  line_once : (e f : RowKey × Row) (r q : List ℕ) → IsBelow total_limit e.1
      → IsBelow total_limit f.1 → row_line contests e ++ r ≡ row_line others f ++ q
      → (said contests e ≡ said others f) × (r ≡ q)
  line_once e f r q low less is =
      let id = quoted_once (slice_index_or (contest_ids contests) e.0.contest [])
      (slice_index_or (contest_ids others) f.0.contest []) _ _
      (sym (words (quoted (slice_index_or (contest_ids contests) e.0.contest []))
      (part_text e.0.unit) (part_text e.0.batch) (numbers e.1)
      (flat_map selection (zip (selections_at contests e.0.contest) e.1.votes)) r)
      ∙ (is ∙ words (quoted (slice_index_or (contest_ids others) f.0.contest []))
      (part_text f.0.unit) (part_text f.0.batch) (numbers f.1)
      (flat_map selection (zip (selections_at others f.0.contest) f.1.votes)) q)) in
      let unit = part_once e.0.unit f.0.unit _ _ id.1 in
      let batch = part_once e.0.batch f.0.batch _ _ unit.1 in
      let votes = zip (selections_at contests e.0.contest) e.1.votes in
      let theirs = zip (selections_at others f.0.contest) f.1.votes in
      let columns = numbers_once (map (λ column. number_in column e.1) columns)
      (map (λ column. number_in column f.1) columns) _ _ refl (numbers_below e.1 low)
      (numbers_below f.1 less) (no_more votes r) (no_more theirs q) batch.1 in
      let end = selections_once votes theirs r q
      (votes_below (selections_at contests e.0.contest) e.1.votes (λ place. low (VotesFor place)))
      (votes_below (selections_at others f.0.contest) f.1.votes (λ place. less (VotesFor place)))
      columns.1 in (
        (λ i. record {
          contest = id.0 i;
          unit = unit.0 i;
          batch = batch.0 i;
          numbers = columns.0 i;
          votes = end.0 i;
        }),
        end.1,
      )

  lines_once : (es fs : List (RowKey × Row))
      → ((e : RowKey × Row) → Contains es e → IsBelow total_limit e.1)
      → ((f : RowKey × Row) → Contains fs f → IsBelow total_limit f.1)
      → flat_map (row_line contests) es ≡ flat_map (row_line others) fs
      → map (said contests) es ≡ map (said others) fs
  lines_once [] [] low less is = refl
  lines_once [] (f ∷ fs) low less is = Prim.cc is
  lines_once (e ∷ es) [] low less is = Prim.cc is
  lines_once (e ∷ es) (f ∷ fs) low less is =
      let line = line_once e f (flat_map (row_line contests) es) (flat_map (row_line others) fs)
      (low e (at_head e es)) (less f (at_head f fs)) is in
      let rest = lines_once es fs (λ x at. low x (at_tail e x es at))
      (λ x at. less x (at_tail f x fs at)) line.1 in
      λ i. line.0 i ∷ rest i

pub one_reading : OneReadingLaw
one_reading contests others rows again low less is =
    lines_once contests others (entries rows) (entries again) low less is
