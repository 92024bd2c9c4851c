-- What each column of a contest comes to over all rows: what the current snapshots of all records
-- do.
use Rattle.std.proofs.Common.{◌≡◌, ◌+◌, ◌*◌, ◌==◌, ◌≤◌, ℕ, Bool, true, false, cond, List, [], ◌∷◌}
use Rattle.std.proofs.Common.{length, map, Contains, Option, Some, None, is_some, inl, inr, refl}
use Rattle.std.proofs.Common.{sym, ap, ◌∙◌, arith}
use Rattle.std.proofs.Math.Nat.{add-mul}
use Rattle.std.specs.List.{filter, find, sum_by, count_by}
use Rattle.std.specs.FinMap.{entries, get-entries}
use Rattle.std.specs.Option.{option_map_or}
use Rattle.std.proofs.lemmas.Bool.{eqb-true, cases_lt}
use Rattle.std.proofs.lemmas.List.{get_or_past}
use Rattle.std.proofs.lemmas.List.FromFn.{length-map-range_with_len}
use Rattle.std.proofs.lemmas.List.Sums.{sum_by-cons, length-filter}
use Rattle.cdf_parts.specs.Places.{Contest, selections_at}
use Rattle.cdf_typed.specs.Typed.{snapshot_of}
use Rattle.cdf_definition.specs.Frame.{Frame}
use Rattle.cvr_fact_types.specs.declared.name.RecordName.{RecordName}
use Rattle.cvr_fact_types.specs.declared.sums.VoteSums.{VoteSums}
use Rattle.cvr_fact_types.specs.Columns.{Column, Ballots, VotesFor, worth}
use Rattle.cvr_fact_types.specs.Facts.{Facts}
use Rattle.cvr_facts.specs.Choosing.{data_of, current}
use Rattle.cvr_facts.specs.Sums.{votes_for, sums_of, by_place}
use Rattle.cvr_facts.proofs.Lemmas.{at_head, at_tail, from_map}
use Rattle.cvr_tally.specs.declared.key.RowKey.{RowKey}
use Rattle.cvr_tally.specs.declared.row.Row.{Row}
use Rattle.cvr_tally.specs.Keys.{keys_total, keys_exact}
use Rattle.cvr_tally.specs.Rows.{number_in}
use Rattle.cvr_tally.proofs.Lemmas.{number_in-row_by, number_in-row_by-le}
use Rattle.cvr_office.specs.Names.{records}
use Rattle.cvr_office.specs.CanHold.{CanHold}
use Rattle.cvr_office.specs.Tallied.{sums_of_body, sums_at, stands_in, column_over, row_of}
use Rattle.cvr_office.specs.Tallied.{row, rows}
use Rattle.cvr_office.specs.Counting.{ColumnsLaw, AddUpLaw}
use Rattle.cvr_office.proofs.RowSteps.{found, shown}
use Rattle.cvr_office.proofs.RowsOfKeys.{rows_law}
use Rattle.cvr_office.proofs.StandsOnce.{weight, found_at, rising, keys, has, each_record}

-- ---- sums

module _ {X : Type 0} where
  sum_by-both : (f g h : X → ℕ) → ((x : X) → h x ≡ f x + g x) → (xs : List X)
      → sum_by f xs + sum_by g xs ≡ sum_by h xs
  sum_by-both f g h is [] = omega arith
  sum_by-both f g h is (x ∷ xs) = omega (
    arith,
    is x,
    sum_by-cons f x xs,
    sum_by-cons g x xs,
    sum_by-cons h x xs,
    sum_by-both f g h is
        xs,
  )

  pub sum_by-same : (f g : X → ℕ) (xs : List X) → ((x : X) → Contains xs x → f x ≡ g x)
      → sum_by f xs ≡ sum_by g xs
  sum_by-same f g [] is = refl
  sum_by-same f g (x ∷ xs) is =
      omega (
        arith,
        is x (at_head x xs),
        sum_by-cons f x xs,
        sum_by-cons g x xs,
        sum_by-same f g xs
            (λ y at. is y (at_tail x y xs at)),
      )

  sum_by-none : (xs : List X) → sum_by (λ x. 0) xs ≡ 0
  sum_by-none [] = refl
  sum_by-none (x ∷ xs) = omega (arith, sum_by-cons (λ (x : X). 0) x xs, sum_by-none xs)

  -- of those that pass
  pub sum_by-kept : (p : X → Bool) (f : X → ℕ) (xs : List X)
      → sum_by f (filter p xs) ≡ sum_by (λ x. cond (p x) (f x) 0) xs
  sum_by-kept p f [] = refl
  sum_by-kept p f (x ∷ xs) =
      let rest = sum_by-kept p f xs in
      elim (p x) as (λ b. sum_by f (cond b (x ∷ filter p xs) (filter p xs))
      ≡ cond b (f x) 0 + sum_by (λ x. cond (p x) (f x) 0) xs) [
        | true ↦ omega (arith, sum_by-cons f x (filter p xs), rest)
        | false ↦ omega (arith, rest)
      ] ∙ sym (sum_by-cons (λ x. cond (p x) (f x) 0) x xs)

-- the pairs that pass, added up by one side or by the other
exchanged : {K Y : Type 0} (p : K → Y → Bool) (w : Y → ℕ) (ks : List K) (ys : List Y)
    → sum_by (λ k. sum_by w (filter (p k) ys)) ks
    ≡ sum_by (λ y. sum_by (λ k. cond (p k y) (w y) 0) ks) ys
exchanged p w [] ys = sym (sum_by-none ys)
exchanged p w (k ∷ ks) ys =
    sum_by-cons (λ k. sum_by w (filter (p k) ys)) k ks
    ∙ ((λ i. sum_by-kept (p k) w ys i + exchanged p w ks ys i)
    ∙ sum_by-both (λ y. cond (p k y) (w y) 0) (λ y. sum_by (λ q. cond (p q y) (w y) 0) ks)
    (λ y. sum_by (λ q. cond (p q y) (w y) 0) (k ∷ ks))
    (λ y. sum_by-cons (λ q. cond (p q y) (w y) 0) k ks) ys)

-- an amount for each that passes
one_amount : (a : ℕ) (b : Bool) → cond b a 0 ≡ weight b * a
one_amount a true = omega arith
one_amount a false = omega arith

amounts : {K : Type 0} (p : K → Bool) (a : ℕ) (ks : List K)
    → sum_by (λ k. cond (p k) a 0) ks ≡ count_by p ks * a
amounts p a [] = omega arith
amounts p a (k ∷ ks) =
    sum_by-cons (λ k. cond (p k) a 0) k ks
    ∙ ((λ i. one_amount a (p k) i + amounts p a ks i)
    ∙ (sym (add-mul (weight (p k)) (count_by p ks) a)
    ∙ ap (λ n. n * a) (sym (sum_by-cons (λ k. weight (p k)) k ks))))

-- ---- one row

module _ (contests : List Contest) (s : Facts) (c : ℕ) where
  -- a ballot has no votes beyond the contest's selections
  no_votes : (place : ℕ) → length (selections_at contests c) ≤ place → (o : Option (List ℕ))
      → (v : VoteSums)
      → find (λ v. v.contest == c) (option_map_or (sums_of_body contests) o []) ≡ Some v
      → worth (VotesFor place) v ≡ 0
  no_votes place past None v is = Prim.cc is
  no_votes place past (Some body) v is =
      let at = found (λ v. v.contest == c) (sums_of_body contests body) v is in
      let w = from_map (sums_of contests) v
      (by_place contests (snapshot_of contests (data_of body)).contests) at.0 in
      let contest : w.0.contest ≡ c = ap (λ v. v.contest) w.2 ∙ eqb-true v.contest c at.1 in
      let same : length (selections_at contests w.0.contest) ≡ length (selections_at contests c) =
      ap (λ n. length (selections_at contests n)) contest in
      let votes : length (sums_of contests w.0).votes ≡ length v.votes =
      ap (λ v. length v.votes) w.2 in
      get_or_past v.votes place 0 (omega (
        arith,
        past,
        same,
        votes,
        length-map-range_with_len (λ place. votes_for place w.0) 0
            (length (selections_at contests w.0.contest)),
      ))

  of_record : (place : ℕ) → length (selections_at contests c) ≤ place → (r : RecordName)
      → (o : Option VoteSums) → sums_at contests s c r ≡ o
      → option_map_or (worth (VotesFor place)) o 0 ≡ 0
  of_record place past r None is = refl
  of_record place past r (Some v) is = no_votes place past (current s r) v is

  none_over : (place : ℕ) → length (selections_at contests c) ≤ place → (rs : List RecordName)
      → column_over contests s c rs (VotesFor place) ≡ 0
  none_over place past [] = refl
  none_over place past (r ∷ rs) = omega (
    arith,
    sum_by-cons (λ r. option_map_or (worth (VotesFor place)) (sums_at contests s c r) 0) r rs,
    of_record place past r (sums_at contests s c r) refl,
    none_over place past rs,
  )

  -- a column of the row of some records
  in_row : (rs : List RecordName) (column : Column)
      → number_in column (row_of contests s c rs) ≡ column_over contests s c rs column
  in_row rs (VotesFor place) = elim (cases_lt place (length (selections_at contests c))) [
    | inl less ↦ number_in-row_by (length (selections_at contests c))
        (column_over contests s c rs) (VotesFor place) less
    | inr past ↦ let none = none_over place past rs in
        omega (
          arith,
          none,
          number_in-row_by-le (length (selections_at contests c))
              (column_over contests s c rs) (VotesFor place),
        )
  ]
  in_row rs column = refl

-- ---- all rows

module _ (frame : Frame) (s : Facts) (c : ℕ) (column : Column) where
  -- what a record adds
  abbrev amount : RecordName → ℕ
  amount r = option_map_or (worth column) (sums_at frame.contests s c r) 0

  -- the records that stand at a key
  abbrev standing : RowKey → List RecordName
  standing q = filter (stands_in frame.contests s q) (records s)

  theirs : (x : RowKey × Row) → Contains (entries (rows frame.contests s)) x → x.0.contest ≡ c
      → number_in column x.1 ≡ sum_by amount (standing x.0)
  theirs x at is =
      let t = rows frame.contests s in
      let row : row frame.contests s x.0 ≡ Some x.1 =
      sym (rows_law frame.contests s x.0)
      ∙ (get-entries t x.0 ∙ found_at keys_total keys_exact (entries t) (rising frame s c) x at) in
      ap (number_in column) (sym (shown (length (standing x.0) == 0)
      (row_of frame.contests s x.0.contest (standing x.0)) x.1 row).1)
      ∙ (in_row frame.contests s x.0.contest (standing x.0) column
      ∙ ap (λ n. column_over frame.contests s n (standing x.0) column) is)

  by_keys : (es : List (RowKey × Row))
      → ((x : RowKey × Row) → Contains es x → x.0.contest ≡ c
      → number_in column x.1 ≡ sum_by amount (standing x.0))
      → sum_by (λ x. number_in column x.1) (filter (λ x. x.0.contest == c) es)
      ≡ sum_by (λ q. sum_by amount (standing q))
      (filter (λ q. q.contest == c) (map (λ x. x.0) es))
  by_keys [] is = refl
  by_keys (x ∷ es) is =
      let rest = by_keys es (λ y at. is y (at_tail x y es at)) in
      let kept = filter (λ (x : RowKey × Row). x.0.contest == c) es in
      let left = filter (λ (q : RowKey). q.contest == c) (map (λ (x : RowKey × Row). x.0) es) in
      elim (x.0.contest == c) as (λ b. (x.0.contest == c) ≡ b
      → sum_by (λ (x : RowKey × Row). number_in column x.1) (cond b (x ∷ kept) kept)
      ≡ sum_by (λ q. sum_by amount (standing q)) (cond b (x.0 ∷ left) left)) [
        | true ↦ λ e. omega (
          arith,
          sum_by-cons (λ (x : RowKey × Row). number_in column x.1) x kept,
          sum_by-cons (λ q. sum_by amount (standing q)) x.0 left,
          is x (at_head x es) (eqb-true x.0.contest c e),
          rest,
        )
        | false ↦ λ e. rest
      ] refl

  -- a record without the contest adds nothing
  whole : (o : Option VoteSums)
      → weight (is_some o) * option_map_or (worth column) o 0 ≡ option_map_or (worth column) o 0
  whole None = refl
  whole (Some v) = omega arith

  once : CanHold frame s → (r : RecordName) → Contains (records s) r
      → sum_by (λ q. cond (stands_in frame.contests s q r) (amount r) 0) (keys frame s c)
      ≡ amount r
  once can_hold r at =
      amounts (λ q. stands_in frame.contests s q r) (amount r) (keys frame s c)
      ∙ (ap (λ n. n * amount r) (each_record frame s c can_hold r at)
      ∙ whole (sums_at frame.contests s c r))

pub columns_add_up : ColumnsLaw
columns_add_up frame s c column can_hold =
    by_keys frame s c column (entries (rows frame.contests s)) (theirs frame s c column)
    ∙ (exchanged (stands_in frame.contests s) (amount frame s c column) (keys frame s c) (records s)
    ∙ sum_by-same (λ r. sum_by (λ q. cond (stands_in frame.contests s q r)
    (amount frame s c column r) 0) (keys frame s c)) (amount frame s c column) (records s)
    (once frame s c column can_hold))

-- ---- ballots

one_ballot : (o : Option VoteSums) → option_map_or (worth Ballots) o 0 ≡ weight (is_some o)
one_ballot None = refl
one_ballot (Some v) = refl

pub ballots_add_up : AddUpLaw
ballots_add_up frame s c can_hold =
    columns_add_up frame s c Ballots can_hold
    ∙ (sum_by-same (amount frame s c Ballots) (λ r. weight (has frame s c r)) (records s)
    (λ r at. one_ballot (sums_at frame.contests s c r))
    ∙ sym (length-filter (has frame s c) (records s)))
