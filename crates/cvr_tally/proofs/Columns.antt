-- Rows by their columns.
use Rattle.std.proofs.Common.{◌≡◌, ℕ, zero, suc, ◌+◌, ◌-◌, ◌≤◌, ◌<◌, ◌^◌, List, [], ◌∷◌, length}
use Rattle.std.proofs.Common.{map, replicate, inl, inr, refl, sym, ap, ◌∙◌, subst, arith, ext_get_or}
use Rattle.std.specs.Bool.{⊤}
use Rattle.std.specs.List.{AllByRecursion, range_with_len}
use Rattle.std.proofs.lemmas.Bool.{cases_lt}
use Rattle.std.proofs.lemmas.List.{get_or_past}
use Rattle.std.proofs.lemmas.List.FromFn.{length-map-range_with_len, get_or-map-range_with_len}
use Rattle.cvr_fact_types.specs.declared.sums.VoteSums.{VoteSums}
use Rattle.cvr_fact_types.specs.Columns.{Column, Ballots, VotesFor, columns, worth}
use Rattle.cvr_tally.specs.declared.row.Row.{Row}
use Rattle.cvr_tally.specs.Rows.{number_in, row_from, row_by, zero_row, row_plus, row_minus}
use Rattle.cvr_tally.specs.Rows.{ballot_limit, limit_of, HasRoom, HasSums}

-- rows of equally many votes are equal where each column is
pub same_row : (a b : Row) → length a.votes ≡ length b.votes
    → ((column : Column) → number_in column a ≡ number_in column b) → a ≡ b
same_row a b long same =
    let votes = ext_get_or 0 a.votes b.votes long (λ place less. same (VotesFor place)) in
    λ i. row_from (map (λ column. same column i) columns) (votes i)

-- ---- a row with these numbers

-- a contest with n selections has this column
abbrev pub IsColumnOf : ℕ → Column → Type 0
IsColumnOf n (VotesFor place) = place < n
IsColumnOf n _ = ⊤

module _ (n : ℕ) (number : Column → ℕ) where
  pub length-row_by : length (row_by n number).votes ≡ n
  length-row_by = length-map-range_with_len (λ place. number (VotesFor place)) 0 n

  pub number_in-row_by : (column : Column) → IsColumnOf n column
      → number_in column (row_by n number) ≡ number column
  number_in-row_by (VotesFor place) here = get_or-map-range_with_len
      (λ place. number (VotesFor place)) 0 n place place 0 here (omega arith)
  number_in-row_by _ here = refl

  -- beyond its selections there is nothing
  past_row_by : (place : ℕ) → n ≤ place → number_in (VotesFor place) (row_by n number) ≡ 0
  past_row_by place past =
      get_or_past (row_by n number).votes place 0 (omega (arith, length-row_by, past))

  pub all_in-row_by : ((place : ℕ) → n ≤ place → number (VotesFor place) ≡ 0) → (column : Column)
      → number_in column (row_by n number) ≡ number column
  all_in-row_by none (VotesFor place) = elim (cases_lt place n) [
    | inl less ↦ number_in-row_by (VotesFor place) less
    | inr past ↦ past_row_by place past ∙ sym (none place past)
  ]
  all_in-row_by none _ = refl

  pub number_in-row_by-le : (column : Column) → number_in column (row_by n number) ≤ number column
  number_in-row_by-le (VotesFor place) = elim (cases_lt place n) [
    | inl less ↦ let is = number_in-row_by (VotesFor place) less in omega (arith, is)
    | inr past ↦ let none = past_row_by place past in omega (arith, none)
  ]
  number_in-row_by-le _ = omega arith

-- the same numbers make the same row
module _ (n : ℕ) (f g : Column → ℕ)
    (same : (column : Column) → IsColumnOf n column → f column ≡ g column) where
  same_in : (column : Column) → number_in column (row_by n f) ≡ number_in column (row_by n g)
  same_in (VotesFor place) = elim (cases_lt place n) [
    | inl less ↦ number_in-row_by n f (VotesFor place) less
        ∙ (same (VotesFor place) less ∙ sym (number_in-row_by n g (VotesFor place) less))
    | inr past ↦ past_row_by n f place past ∙ sym (past_row_by n g place past)
  ]
  same_in column = same column tt

  pub row_by-same : row_by n f ≡ row_by n g
  row_by-same = same_row _ _ (length-row_by n f ∙ sym (length-row_by n g)) same_in

-- ---- zero, more and less

pub number_in-zero_row : (n : ℕ) (column : Column) → number_in column (zero_row n) ≡ 0
number_in-zero_row n = all_in-row_by n (λ column. 0) (λ place past. refl)

-- rows stay as long
pub length-zero_row : (n : ℕ) → length (zero_row n).votes ≡ n
length-zero_row n = length-row_by n (λ column. 0)

pub length-row_plus : (row : Row) (sums : VoteSums)
    → length (row_plus row sums).votes ≡ length row.votes
length-row_plus row sums =
    length-row_by (length row.votes) (λ column. number_in column row + worth column sums)

pub length-row_minus : (row : Row) (sums : VoteSums)
    → length (row_minus row sums).votes ≡ length row.votes
length-row_minus row sums =
    length-row_by (length row.votes) (λ column. number_in column row - worth column sums)

pub row_plus-row_by : (n : ℕ) (number : Column → ℕ) (sums : VoteSums)
    → row_plus (row_by n number) sums ≡ row_by n (λ column. number column + worth column sums)
row_plus-row_by n number sums =
    subst (λ m. row_by m (λ column. number_in column (row_by n number) + worth column sums)
    ≡ row_by n (λ column. number column + worth column sums)) (sym (length-row_by n number))
    (row_by-same n _ _ (λ column here. ap (λ k. k + worth column sums)
    (number_in-row_by n number column here)))

module _ (row : Row) (sums : VoteSums) (long : length sums.votes ≡ length row.votes) where
  none_past : (place : ℕ) → length row.votes ≤ place
      → (number_in (VotesFor place) row ≡ 0) × (worth (VotesFor place) sums ≡ 0)
  none_past place past = (
    get_or_past row.votes place 0 past,
    get_or_past sums.votes place 0
        (omega (arith, long, past)),
  )

  pub number_in-row_plus : (column : Column)
      → number_in column (row_plus row sums) ≡ number_in column row + worth column sums
  number_in-row_plus = all_in-row_by (length row.votes) _
      (λ place past. let none = none_past place past in omega (arith, none.0, none.1))

  pub number_in-row_minus : (column : Column)
      → number_in column (row_minus row sums) ≡ number_in column row - worth column sums
  number_in-row_minus = all_in-row_by (length row.votes) _
      (λ place past. let none = none_past place past in omega (arith, none.0, none.1))

-- each number is below the limit of its column
pub below_limits : (number : Column → ℕ) → number Ballots ≤ ballot_limit
    → ((column : Column) → number column < 2 ^ 128) → (column : Column)
    → number column < limit_of column
below_limits number few below Ballots = omega (arith, few)
below_limits number few below column = below column

-- what holds of any column holds of each
in_each : (P : Column → Type 0) → ((column : Column) → P column) → (cs : List Column)
    → AllByRecursion P cs
in_each P any [] = tt
in_each P any (column ∷ cs) = (any column, in_each P any cs)

pub room_in_each : (row : Row) (sums : VoteSums) → HasRoom row sums
    → AllByRecursion (λ column. number_in column row + worth column sums < limit_of column) columns
room_in_each row sums room = in_each _ room columns

pub sums_in_each : (row : Row) (sums : VoteSums) → HasSums row sums
    → AllByRecursion (λ column. worth column sums ≤ number_in column row) columns
sums_in_each row sums has = in_each _ has columns

-- zeros in a list
pub all_zero : (a n : ℕ) → replicate n zero ≡ map (λ (i : ℕ). zero) (range_with_len a n)
all_zero a zero = refl
all_zero a (suc n) = ap (λ ns. 0 ∷ ns) (all_zero (a + 1) n)
