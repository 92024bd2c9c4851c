-- Rows of totals, and what each call makes of the map of rows. (This project's own.)
use Rattle.std.specs.Prelude.{◌≡◌, ◌==◌, ◌<◌, ◌≤◌, ◌+◌, ◌-◌, ◌^◌, ℕ, List, map, length, slice_index}
use Rattle.std.specs.Prelude.{if◌then◌else◌, Option, Some, None}
use Rattle.std.specs.List.{range_with_len}
use Rattle.std.proofs.Common.{refl}
use Rattle.std.specs.Coded.{Coded, code_by, coded×, coded_ℕ, coded_list}
use Rattle.std.specs.Option.{option_map_or}
use Rattle.std.specs.FinMap as rows
use Rattle.cdf_parts.specs.Places.{Contest, selections_at}
use Rattle.cvr_fact_types.specs.declared.sums.VoteSums.{VoteSums}
use Rattle.cvr_fact_types.specs.Columns.{Column, Ballots, Overvotes, Undervotes, WriteIns, Pending}
use Rattle.cvr_fact_types.specs.Columns.{Unassigned, VotesFor, columns, worth}
use Rattle.cvr_tally.specs.declared.key.RowKey.{RowKey}
use Rattle.cvr_tally.specs.declared.row.Row.{Row}
use Rattle.cvr_tally.specs.Keys.{key_cmp, coded_key}

-- ---- a row

-- the number in a column, 0 in that of a selection that the contest doesn't have
abbrev pub number_in : Column → Row → ℕ
number_in Ballots row = row.ballots
number_in Overvotes row = row.overvotes
number_in Undervotes row = row.undervotes
number_in WriteIns row = row.write_ins
number_in Pending row = row.pending
number_in Unassigned row = row.unassigned
number_in (VotesFor place) row = slice_index row.votes place

-- the row with these numbers in its columns, in their order, 0 where the list ends before, and with
-- these votes of selections
abbrev pub row_from : List ℕ → List ℕ → Row
row_from numbers votes = record {
  ballots = slice_index numbers 0;
  overvotes = slice_index numbers 1;
  undervotes = slice_index numbers 2;
  write_ins = slice_index numbers 3;
  pending = slice_index numbers 4;
  unassigned = slice_index numbers 5;
  votes = votes;
}

-- the row with these numbers in its columns, of a contest with n selections
abbrev pub row_by : ℕ → (Column → ℕ) → Row
row_by n number = row_from (map number columns)
    (map (λ place. number (VotesFor place)) (range_with_len 0 n))

-- zero in each
abbrev pub zero_row : ℕ → Row
zero_row n = row_by n (λ column. 0)

-- with the sums of one more ballot
abbrev pub row_plus : Row → VoteSums → Row
row_plus row sums = row_by (length row.votes) (λ column. number_in column row + worth column sums)

-- without the sums of one of its ballots
abbrev pub row_minus : Row → VoteSums → Row
row_minus row sums = row_by (length row.votes) (λ column. number_in column row - worth column sums)

-- the most ballots of a row
abbrev pub ballot_limit : ℕ
ballot_limit = 18_446_744_073_709_551_615

-- what the numbers of a column stay below: 2^128 but for ballots
abbrev pub limit_of : Column → ℕ
limit_of Ballots = ballot_limit + 1
limit_of column = 2 ^ 128

-- it has room for the sums: no column reaches its limit by them
abbrev pub HasRoom : Row → VoteSums → Type 0
HasRoom row sums = (column : Column) → number_in column row + worth column sums < limit_of column

-- The row has the sums: no column is below theirs. So it has a ballot.
abbrev pub HasSums : Row → VoteSums → Type 0
HasSums row sums = (column : Column) → worth column sums ≤ number_in column row

-- nothing where it has no ballots
abbrev pub row_closed : Option Row → Option Row
row_closed r = option_map_or (λ x. if x.ballots == 0 then None else Some x) r None

-- ---- the map of rows

-- the rows of a tally by their keys, in order of key
abbrev pub Rows : Type 0
Rows = rows.FinMap key_cmp Row

-- the sums added to the row of a key
abbrev pub rows_plus : Rows → RowKey → VoteSums → Rows
rows_plus m k s = option_map_or (λ r. rows.insert m k (row_plus r s)) (rows.get m k) m

-- the sums taken out of it
abbrev pub rows_minus : Rows → RowKey → VoteSums → Rows
rows_minus m k s = option_map_or (λ r. rows.insert m k (row_minus r s)) (rows.get m k) m

-- a row of zeros where there is none
abbrev pub rows_opened : List Contest → Rows → RowKey → Rows
rows_opened contests m k = option_map_or (λ _. m) (rows.get m k)
    (rows.insert m k (zero_row (length (selections_at contests k.contest))))

-- without the row where it has no ballots
abbrev pub rows_closed : Rows → RowKey → Rows
rows_closed m k =
    option_map_or (λ r. if r.ballots == 0 then rows.remove m k else m) (rows.get m k) m

-- ---- totals

-- the contests of a definition, the rows, and how often one of them was changed
pub record TotalsValue : Type 0 where
  pub contests : List Contest
  pub rows : Rows
  pub moves : ℕ

-- each row is one of a contest of the definition, with a number for each of its selections
pub record IsTotals (t : TotalsValue) : Type 0 where
  pub contest : (k : RowKey) (r : Row) → rows.get t.rows k ≡ Some r → k.contest < length t.contests
  pub votes : (k : RowKey) (r : Row) → rows.get t.rows k ≡ Some r
      → length r.votes ≡ length (selections_at t.contests k.contest)

abbrev pub coded_row : Coded Row
coded_row = code_by (List ℕ × List ℕ) (coded× (coded_list coded_ℕ) (coded_list coded_ℕ))
    (λ r. (map (λ column. number_in column r) columns, r.votes)) (λ p. row_from p.0 p.1) (λ _. refl)

abbrev pub coded_contests : Coded (List Contest)
coded_contests = coded_list (coded× (coded_list coded_ℕ) (coded_list (coded_list coded_ℕ)))

abbrev pub coded_totals : Coded TotalsValue
coded_totals = code_by (List Contest × (Rows × ℕ))
    (coded× coded_contests (coded× (rows.code coded_key coded_row) coded_ℕ))
    (λ t. (t.contests, (t.rows, t.moves)))
    (λ p. record { contests = p.0; rows = p.1.0; moves = p.1.1 }) (λ _. refl)
