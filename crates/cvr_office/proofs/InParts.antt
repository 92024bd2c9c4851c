-- The records, currents, headers and rows of facts in parts that have no record in common.
use Rattle.std.proofs.Common.{◌≡◌, ◌+◌, ◌==◌, ◌<◌, ℕ, suc, Bool, true, false, cond, not, ◌&&◌, List}
use Rattle.std.proofs.Common.{[], ◌∷◌, ◌++◌, length, Contains, Option, Some, None, is_some, inl}
use Rattle.std.proofs.Common.{inr, refl, sym, ap, ap₂, ◌∙◌, subst, arith, true≢false, ne_eqb}
use Rattle.std.specs.Prelude.{◌⊎◌, slice_get}
use Rattle.std.specs.List.{filter, find, sum_by, flat_map, list_any}
use Rattle.std.specs.List.Sorted.{IsPermutation}
use Rattle.std.specs.FinSet.{union, empty, contains, contains-empty}
use Rattle.std.specs.Option.{option_map_or}
use Rattle.std.specs.Ordering.{eq_by_cmp}
use Rattle.std.proofs.lemmas.List.Kept.{IsStrictlySortedBy-filter}
use Rattle.std.proofs.lemmas.List.Sorted.{IsPermutation-refl, IsPermutation-sym}
use Rattle.std.proofs.lemmas.List.Sorted.{IsPermutation-trans, IsPermutation-append_right}
use Rattle.std.proofs.lemmas.List.Sorted.{IsPermutation-filter_both, sum_by-IsPermutation}
use Rattle.std.proofs.lemmas.List.Sums.{sum_by-append, length-filter}
use Rattle.std.proofs.lemmas.Map.Made.{is_member-Decides}
use Rattle.cdf_parts.specs.Places.{Contest, selections_at}
use Rattle.cvr_fact_types.specs.declared.name.RecordName.{RecordName}
use Rattle.cvr_fact_types.specs.declared.sums.VoteSums.{VoteSums}
use Rattle.cvr_fact_types.specs.Columns.{Column, worth}
use Rattle.cvr_fact_types.specs.Facts.{Fact, Header, Snapshot, Facts, name_cmp, fact_total}
use Rattle.cvr_fact_types.specs.Facts.{fact_exact}
use Rattle.cvr_facts.specs.Unions.{union_comm}
use Rattle.cvr_facts.specs.Choosing.{header, current, header_bodies, snapshot_bodies}
use Rattle.cvr_facts.proofs.Laws.{text_total, text_exact, choice_total, choice_exact}
use Rattle.cvr_facts.proofs.Laws.{Contains-header_bodies, Contains-snapshot_bodies}
use Rattle.cvr_facts.proofs.Lemmas.{none_listed, at_head, at_tail, head_or_tail, tie_decides}
use Rattle.cvr_facts.proofs.Lemmas.{ordered_rises, same_lists_of_members}
use Rattle.cvr_tally.specs.declared.key.RowKey.{RowKey}
use Rattle.cvr_tally.specs.declared.row.Row.{Row}
use Rattle.cvr_tally.specs.Rows.{number_in, row_by}
use Rattle.cvr_tally.proofs.Lemmas.{length-row_by, number_in-row_by, row_by-same}
use Rattle.cvr_office.specs.Names.{record_of, records}
use Rattle.cvr_office.specs.Tallied.{is_headed, sums_of_body, sums_at, stands_in, column_over}
use Rattle.cvr_office.specs.Tallied.{row_of, row}
use Rattle.cvr_office.specs.Parts.{ShareNoRecord, AreAllApart, whole, row_sum, option_sum}
use Rattle.cvr_office.specs.Parts.{RowsOfPartsLaw, CurrentsOfPartsLaw, HeadersOfPartsLaw}
use Rattle.cvr_office.specs.Parts.{RecordsRiseLaw, RowsOfManyLaw, CurrentsOfManyLaw}
use Rattle.cvr_office.specs.Parts.{HeadersOfManyLaw, RecordsOfManyLaw}
use Rattle.cvr_office.proofs.ColumnTotals.{sum_by-kept, sum_by-same}
use Rattle.cvr_office.proofs.GivenFacts.{HaveSame, max_by-same}
use Rattle.cvr_office.proofs.Included.{from_union, left_within, right_within}
use Rattle.cvr_office.proofs.Runs.{name_total}
use Rattle.cvr_office.proofs.NextLaws.{listed}
use Rattle.cvr_office.proofs.RecordMembers.{from_filter, in_filter, name_exact}

-- ---- records

-- a record is listed where a fact is of it
has_record : (s : Facts) (r : RecordName) (f : Fact) → contains s f ≡ true → record_of f ≡ Some r
    → Contains (records s) r
has_record s r f has is = (listed name_total name_exact record_of s r).1 (f, has, is)

pub rise : RecordsRiseLaw
rise s = ordered_rises name_cmp _

module _ (s t : Facts) where
  pub record_of_either : (r : RecordName) → Contains (records (union s t)) r
      → Contains (records s) r ⊎ Contains (records t) r
  record_of_either r at =
      let f = (listed name_total name_exact record_of (union s t) r).0 at in
      elim (from_union s t f.0 f.1) [
        | inl left ↦ inl (has_record s r f.0 left f.2)
        | inr right ↦ inr (has_record t r f.0 right f.2)
      ]

  pub record_of_left : (r : RecordName) → Contains (records s) r → Contains (records (union s t)) r
  record_of_left r at = let f = (listed name_total name_exact record_of s r).0 at in
      has_record (union s t) r f.0 (left_within s t f.0 f.1) f.2

  pub record_of_right : (r : RecordName) → Contains (records t) r → Contains (records (union s t)) r
  record_of_right r at = let f = (listed name_total name_exact record_of t r).0 at in
      has_record (union s t) r f.0 (right_within s t f.0 f.1) f.2

-- ---- facts without a record leave it as it is

module _ (s t : Facts) (r : RecordName) (away : ¬ Contains (records t) r) where
  same_snapshots : HaveSame (snapshot_bodies (union s t) r) (snapshot_bodies s r)
  same_snapshots = record {
    there = λ b at.
        let fact = (Contains-snapshot_bodies (union s t) r b).0 at in
        let f = Snapshot r.device r.unique fact.0 b in
        elim (from_union s t f fact.1) [
          | inl left ↦ (Contains-snapshot_bodies s r b).1 (fact.0, left)
          | inr right ↦ absurd (away (has_record t r f right refl))
        ];
    back = λ b at.
        let fact = (Contains-snapshot_bodies s r b).0 at in
        (Contains-snapshot_bodies (union s t) r b).1
        (fact.0, left_within s t (Snapshot r.device r.unique fact.0 b) fact.1);
  }

  same_headers : HaveSame (header_bodies (union s t) r) (header_bodies s r)
  same_headers = record {
    there = λ b at.
        let f = Header r.device r.unique b in
        elim (from_union s t f ((Contains-header_bodies (union s t) r b).0 at)) [
          | inl left ↦ (Contains-header_bodies s r b).1 left
          | inr right ↦ absurd (away (has_record t r f right refl))
        ];
    back = λ b at. (Contains-header_bodies (union s t) r b).1
        (left_within s t (Header r.device r.unique b) ((Contains-header_bodies s r b).0 at));
  }

  pub current_stays : current (union s t) r ≡ current s r
  current_stays = max_by-same choice_total choice_exact _ _ same_snapshots

  pub header_stays : header (union s t) r ≡ header s r
  header_stays = max_by-same text_total text_exact _ _ same_headers

-- the same where they come first
swapped : (s t : Facts) → union t s ≡ union s t
swapped s t = union_comm fact_total fact_exact t s

pub currents : CurrentsOfPartsLaw
currents s t apart r at = let same = current_stays s t r (apart r at) in
    (same, ap (λ u. current u r) (swapped s t) ∙ same)

pub headers : HeadersOfPartsLaw
headers s t apart r at =
    let same = header_stays s t r (apart r at) in (same, ap (λ u. header u r) (swapped s t) ∙ same)

-- ---- the records of both

module _ (s t : Facts) (apart : ShareNoRecord s t) where
  -- whether a record is in the first part
  abbrev is_first : RecordName → Bool
  is_first r = list_any (eq_by_cmp name_cmp r) (records s)

  first_is : (r : RecordName) → is_first r ≡ true → Contains (records s) r
  first_is r h = (is_member-Decides (tie_decides name_total name_exact) (records s) r).0 h

  is_first_of : (r : RecordName) → Contains (records s) r → is_first r ≡ true
  is_first_of r at = (is_member-Decides (tie_decides name_total name_exact) (records s) r).1 at

  negated : (b : Bool) → not b ≡ true → b ≡ true → ⊥
  negated true h is = true≢false (sym h)
  negated false h is = true≢false (sym is)

  not_first : (r : RecordName) (b : Bool) → is_first r ≡ b → Contains (records t) r → not b ≡ true
  not_first r true is at = absurd (apart r (first_is r is) at)
  not_first r false is at = refl

  firsts : filter is_first (records (union s t)) ≡ records s
  firsts = same_lists_of_members name_total _ _
      (IsStrictlySortedBy-filter name_cmp is_first (records (union s t)) (rise (union s t)))
      (rise s)
      (λ r at. first_is r (from_filter is_first (records (union s t)) r at).1)
      (λ r at. in_filter is_first (records (union s t)) r (record_of_left s t r at)
      (is_first_of r at))

  others : filter (λ r. not (is_first r)) (records (union s t)) ≡ records t
  others = same_lists_of_members name_total _ _
      (IsStrictlySortedBy-filter name_cmp (λ r. not (is_first r)) (records (union s t))
      (rise (union s t))) (rise t)
      (λ r at.
      let kept = from_filter (λ r. not (is_first r)) (records (union s t)) r at in
      elim (record_of_either s t r kept.0) [
        | inl first ↦ absurd (negated (is_first r) kept.1 (is_first_of r first))
        | inr right ↦ right
      ])
      (λ r at. in_filter (λ r. not (is_first r)) (records (union s t)) r (record_of_right s t r at)
      (not_first r (is_first r) refl at))

  pub records_of_parts : IsPermutation (records s ++ records t) (records (union s t))
  records_of_parts = IsPermutation-sym _ _
      (subst (IsPermutation (records (union s t))) (ap₂ ◌++◌ firsts others)
      (IsPermutation-filter_both is_first (λ r. not (is_first r)) (λ _. refl)
      (records (union s t))))

-- ---- sums over those that pass

module _ {X : Type 0} where
  -- over one list, and over two that make it up
  sum_by-parts : (h g k : X → ℕ) (zs xs ys : List X) → IsPermutation (xs ++ ys) zs
      → ((x : X) → Contains xs x → h x ≡ g x) → ((y : X) → Contains ys y → h y ≡ k y)
      → sum_by h zs ≡ sum_by g xs + sum_by k ys
  sum_by-parts h g k zs xs ys moved left right =
      sum_by-IsPermutation h (xs ++ ys) zs moved
      ∙ (sum_by-append h xs ys
      ∙ ap₂ ◌+◌ (sum_by-same h g xs left) (sum_by-same h k ys right))

-- ---- rows

row_sum-row_by : (n : ℕ) (f g : Column → ℕ)
    → row_sum (row_by n f) (row_by n g) ≡ row_by n (λ column. f column + g column)
row_sum-row_by n f g =
    subst (λ m. row_by m (λ column. number_in column (row_by n f) + number_in column (row_by n g))
    ≡ row_by n (λ column. f column + g column)) (sym (length-row_by n f))
    (row_by-same n _ _ (λ column here. λ i. number_in-row_by n f column here i
    + number_in-row_by n g column here i))

module _ (contests : List Contest) (s t : Facts) (apart : ShareNoRecord s t) (q : RowKey) where
  abbrev both : Facts
  both = union s t

  abbrev standing : Facts → List RecordName
  standing u = filter (stands_in contests u q) (records u)

  -- what a record counts for in a column
  abbrev counted : Facts → (VoteSums → ℕ) → RecordName → ℕ
  counted u f r =
      cond (stands_in contests u q r) (option_map_or f (sums_at contests u q.contest r) 0) 0

  -- what is counted of a header and a current snapshot
  abbrev counted_of : (VoteSums → ℕ) → Option (List ℕ) → Option (List ℕ) → ℕ
  counted_of f head now =
      let sums =
      find (λ v. v.contest == q.contest) (option_map_or (sums_of_body contests) now []) in
      cond (is_headed q head && is_some sums) (option_map_or f sums 0) 0

  abbrev weight_of : Option (List ℕ) → Option (List ℕ) → ℕ
  weight_of head now = cond (is_headed q head
      && is_some (find (λ v. v.contest == q.contest)
      (option_map_or (sums_of_body contests) now []))) 1 0

  abbrev weight : Facts → RecordName → ℕ
  weight u r = cond (stands_in contests u q r) 1 0

  left_header : (r : RecordName) → Contains (records s) r → header both r ≡ header s r
  left_header r at = (headers s t apart r at).0

  left_current : (r : RecordName) → Contains (records s) r → current both r ≡ current s r
  left_current r at = (currents s t apart r at).0

  right_header : (r : RecordName) → Contains (records t) r → header both r ≡ header t r
  right_header r at = (headers t s (λ k here there. apart k there here) r at).1

  right_current : (r : RecordName) → Contains (records t) r → current both r ≡ current t r
  right_current r at = (currents t s (λ k here there. apart k there here) r at).1

  columns : (column : Column) → column_over contests both q.contest (standing both) column
      ≡ column_over contests s q.contest (standing s) column
      + column_over contests t q.contest (standing t) column
  columns column =
      let f = worth column in
      let kept = λ (u : Facts). sum_by-kept (stands_in contests u q)
      (λ r. option_map_or f (sums_at contests u q.contest r) 0) (records u) in
      let split = sum_by-parts (counted both f) (counted s f) (counted t f) (records both)
      (records s) (records t) (records_of_parts s t apart)
      (λ r at. λ i. counted_of f (left_header r at i) (left_current r at i))
      (λ r at. λ i. counted_of f (right_header r at i) (right_current r at i)) in
      kept both ∙ (split ∙ (λ i. sym (kept s) i + sym (kept t) i))

  ballots : length (standing both) ≡ length (standing s) + length (standing t)
  ballots =
      let kept = λ (u : Facts). length-filter (stands_in contests u q) (records u) in
      let split = sum_by-parts (weight both) (weight s) (weight t) (records both) (records s)
      (records t) (records_of_parts s t apart)
      (λ r at. λ i. weight_of (left_header r at i) (left_current r at i))
      (λ r at. λ i. weight_of (right_header r at i) (right_current r at i)) in
      kept both ∙ (split ∙ (λ i. sym (kept s) i + sym (kept t) i))

  abbrev theirs : Facts → List RecordName → Row
  theirs u rs = row_of contests u q.contest rs

  abbrev selections : ℕ
  selections = length (selections_at contests q.contest)

  abbrev over : Facts → List RecordName → Column → ℕ
  over u rs = column_over contests u q.contest rs

  sums : theirs both (standing both) ≡ row_sum (theirs s (standing s)) (theirs t (standing t))
  sums = row_by-same selections _ _ (λ column here. columns column)
      ∙ sym (row_sum-row_by selections (over s (standing s)) (over t (standing t)))

  -- a row of no records adds nothing
  none_left : (rs : List RecordName) → row_sum (theirs s []) (theirs t rs) ≡ theirs t rs
  none_left rs = row_sum-row_by selections (over s []) (over t rs)
      ∙ row_by-same selections _ (over t rs)
      (λ column here. let none : 0 + over t rs column ≡ over t rs column = omega arith in none)

  none_right : (rs : List RecordName) → row_sum (theirs s rs) (theirs t []) ≡ theirs s rs
  none_right rs = row_sum-row_by selections (over s rs) (over t [])
      ∙ row_by-same selections _ (over s rs)
      (λ column here. let none : over s rs column + 0 ≡ over s rs column = omega arith in none)

  there : (n : ℕ) (r : Row) → 0 < n → cond (n == 0) None (Some r) ≡ Some r
  there n r some = ap (λ b. cond b None (Some r)) (ne_eqb n 0 (λ none. omega (arith, some, none)))

  left_there : (r : RecordName) (rs : List RecordName)
      → cond (length (r ∷ rs) == 0) None (Some (theirs s (r ∷ rs))) ≡ Some (theirs s (r ∷ rs))
  left_there r rs = there (length (r ∷ rs)) (theirs s (r ∷ rs)) (omega arith)

  right_there : (w : RecordName) (ws : List RecordName)
      → cond (length (w ∷ ws) == 0) None (Some (theirs t (w ∷ ws))) ≡ Some (theirs t (w ∷ ws))
  right_there w ws = there (length (w ∷ ws)) (theirs t (w ∷ ws)) (omega arith)

  joined : (rs ws : List RecordName)
      → cond (length rs + length ws == 0) None (Some (row_sum (theirs s rs) (theirs t ws)))
      ≡ option_sum (cond (length rs == 0) None (Some (theirs s rs)))
      (cond (length ws == 0) None (Some (theirs t ws)))
  joined [] [] = refl
  joined [] (w ∷ ws) = there (0 + length (w ∷ ws)) _ (omega arith)
      ∙ (ap Some (none_left (w ∷ ws)) ∙ sym (right_there w ws))
  joined (r ∷ rs) [] = there (length (r ∷ rs) + 0) _ (omega arith)
      ∙ (ap Some (none_right (r ∷ rs)) ∙ ap (λ o. option_sum o None) (sym (left_there r rs)))
  joined (r ∷ rs) (w ∷ ws) = there (length (r ∷ rs) + length (w ∷ ws)) _ (omega arith)
      ∙ (λ i. option_sum (sym (left_there r rs) i) (sym (right_there w ws) i))

  pub row_of_both : row contests both q ≡ option_sum (row contests s q) (row contests t q)
  row_of_both = (λ i. cond (ballots i == 0) None (Some (sums i))) ∙ joined (standing s) (standing t)

pub rows : RowsOfPartsLaw
rows = row_of_both

-- ---- many parts

place_of : {X : Type 0} (xs : List X) (x : X) → Contains xs x → (k : ℕ) × (slice_get xs k ≡ Some x)
place_of [] x at = absurd (none_listed x at)
place_of (y ∷ xs) x at =
    elim (head_or_tail y x xs at) [
      | inl is ↦ (0, ap Some is)
      | inr later ↦ let k = place_of xs x later in (suc k.0, k.1)
    ]

no_member : {X : Type 0} (xs : List X) → ((x : X) → ¬ Contains xs x) → xs ≡ []
no_member [] none = refl
no_member (x ∷ xs) none = absurd (none x (at_head x xs))

none_in_empty : records empty ≡ []
none_in_empty = no_member (records empty) (λ r at.
    let f = (listed name_total name_exact record_of empty r).0 at in
    true≢false (sym f.1 ∙ contains-empty _ f.0))

-- a record of all is one of a part
part_with : (parts : List Facts) (r : RecordName) → Contains (records (whole parts)) r
    → (s : Facts) × Contains parts s × Contains (records s) r
part_with [] r at = absurd (none_listed r (subst (λ rs. Contains rs r) none_in_empty at))
part_with (p ∷ parts) r at =
    elim (record_of_either p (whole parts) r at) [
      | inl here ↦ (p, at_head p parts, here)
      | inr later ↦ let found =
          part_with parts r later in (found.0, at_tail p found.0 parts found.1, found.2)
    ]

in_whole : (parts : List Facts) (s : Facts) (r : RecordName) → Contains parts s
    → Contains (records s) r → Contains (records (whole parts)) r
in_whole [] s r at has = absurd (none_listed s at)
in_whole (p ∷ parts) s r at has =
    elim (head_or_tail p s parts at) [
      | inl is ↦ record_of_left p (whole parts) r (subst (λ u. Contains (records u) r) (sym is) has)
      | inr later ↦ record_of_right p (whole parts) r (in_whole parts s r later has)
    ]

module _ (p : Facts) (parts : List Facts) (apart : AreAllApart (p ∷ parts)) where
  first_apart : ShareNoRecord p (whole parts)
  first_apart r here there =
      let found = part_with parts r there in
      let k = place_of parts found.0 found.1 in
      apart 0 (suc k.0) p found.0 refl k.1
      (λ e. let never : 0 ≡ suc k.0 = e in omega (arith, never)) r here found.2

  rest_apart : AreAllApart parts
  rest_apart i j s t a b differ = apart (suc i) (suc j) s t a b (λ e. differ (omega (arith, e)))

pub rows_of_many : RowsOfManyLaw
rows_of_many contests [] apart q = ap (λ rs.
    cond (length (filter (stands_in contests empty q) rs) == 0) None
    (Some (row_of contests empty q.contest (filter (stands_in contests empty q) rs)))) none_in_empty
rows_of_many contests (p ∷ parts) apart q =
    rows contests p (whole parts) (first_apart p parts apart) q
    ∙ ap (option_sum (row contests p q)) (rows_of_many contests parts (rest_apart p parts apart) q)

pub currents_of_many : CurrentsOfManyLaw
currents_of_many [] s r apart at has = absurd (none_listed s at)
currents_of_many (p ∷ parts) s r apart at has =
    let first = first_apart p parts apart in
    elim (head_or_tail p s parts at) [
      | inl is ↦ (currents p (whole parts) first r
          (subst (λ u. Contains (records u) r) (sym is) has)).0 ∙ ap (λ u. current u r) is
      | inr later ↦ (currents (whole parts) p (λ k there here. first k here there) r
          (in_whole parts s r later has)).1
          ∙ currents_of_many parts s r (rest_apart p parts apart) later has
    ]

pub headers_of_many : HeadersOfManyLaw
headers_of_many [] s r apart at has = absurd (none_listed s at)
headers_of_many (p ∷ parts) s r apart at has =
    let first = first_apart p parts apart in
    elim (head_or_tail p s parts at) [
      | inl is ↦ (headers p (whole parts) first r
          (subst (λ u. Contains (records u) r) (sym is) has)).0 ∙ ap (λ u. header u r) is
      | inr later ↦ (headers (whole parts) p (λ k there here. first k here there) r
          (in_whole parts s r later has)).1
          ∙ headers_of_many parts s r (rest_apart p parts apart) later has
    ]

pub records_of_many : RecordsOfManyLaw
records_of_many [] apart = subst (IsPermutation []) (sym none_in_empty) (IsPermutation-refl [])
records_of_many (p ∷ parts) apart =
    IsPermutation-trans (records p ++ flat_map records parts) (records p ++ records (whole parts))
    (records (whole (p ∷ parts)))
    (IsPermutation-append_right (records p) (flat_map records parts) (records (whole parts))
    (records_of_many parts (rest_apart p parts apart)))
    (records_of_parts p (whole parts) (first_apart p parts apart))
