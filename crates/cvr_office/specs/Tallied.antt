-- The rows of a tally, made anew from the facts. (Classes CVR and CVRContest of NIST SP 1500-103;
-- which records stand in a row is this project's own.)
use Rattle.std.specs.Prelude.{◌==◌, ◌<◌, ◌^◌, ℕ, List, [], map, length, find, if◌then◌else◌, Bool}
use Rattle.std.specs.Prelude.{false, ◌&&◌, is_some, codes, Option, Some, None, option_map}
use Rattle.std.specs.List.{filter, filter_map, flat_map, sum_by}
use Rattle.std.specs.Ordering.{is_eq}
use Rattle.std.specs.Option.{option_map_or}
use Rattle.std.specs.FinMap.{from_entries}
use Rattle.cdf_parts.specs.Parts.{text_in}
use Rattle.cdf_parts.specs.Places.{Contest, selections_at}
use Rattle.cdf_typed.specs.Typed.{snapshot_of}
use Rattle.cvr_fact_types.specs.declared.name.RecordName.{RecordName}
use Rattle.cvr_fact_types.specs.declared.sums.VoteSums.{VoteSums}
use Rattle.cvr_fact_types.specs.Columns.{Column, worth}
use Rattle.cvr_fact_types.specs.Facts.{Facts}
use Rattle.cvr_facts.specs.Choosing.{data_of, header, current}
use Rattle.cvr_facts.specs.Sums.{sums_in}
use Rattle.cvr_tally.specs.declared.key.RowKey.{RowKey}
use Rattle.cvr_tally.specs.declared.row.Row.{Row}
use Rattle.cvr_tally.specs.Keys.{part_cmp}
use Rattle.cvr_tally.specs.Rows.{Rows, number_in, row_by}
use Rattle.cvr_tally.specs.Text.{tally_text}
use Rattle.cvr_office.specs.Names.{records}

-- ---- what bodies spell

-- the unit that a header's body spells, if it has one; and the batch
abbrev pub unit_of : List ℕ → Option (List ℕ)
unit_of body = text_in (codes "BallotStyleUnitId") (data_of body)

abbrev pub batch_of : List ℕ → Option (List ℕ)
batch_of body = text_in (codes "BatchId") (data_of body)

-- the sums of each contest of a snapshot
abbrev pub sums_of_body : List Contest → List ℕ → List VoteSums
sums_of_body contests body = sums_in contests (snapshot_of contests (data_of body)).contests

-- ---- which records stand in a row

-- whether a header has the unit and the batch of a row
abbrev pub is_headed : RowKey → Option (List ℕ) → Bool
is_headed q None = false
is_headed q (Some body) =
    is_eq (part_cmp q.unit (unit_of body)) && is_eq (part_cmp q.batch (batch_of body))

-- the sums of a contest in a record's current snapshot, if it contains the contest
abbrev pub sums_at : List Contest → Facts → ℕ → RecordName → Option VoteSums
sums_at contests s c r =
    find (λ v. v.contest == c) (option_map_or (sums_of_body contests) (current s r) [])

-- its header has the row's unit and batch, and its current snapshot contains the row's contest
abbrev pub stands_in : List Contest → Facts → RowKey → RecordName → Bool
stands_in contests s q r = is_headed q (header s r) && is_some (sums_at contests s q.contest r)

-- ---- a row

-- a column of the contest's sums, added up over records
abbrev pub column_over : List Contest → Facts → ℕ → List RecordName → Column → ℕ
column_over contests s c rs column =
    sum_by (λ r. option_map_or (worth column) (sums_at contests s c r) 0) rs

-- the row of these records
abbrev pub row_of : List Contest → Facts → ℕ → List RecordName → Row
row_of contests s c rs = row_by (length (selections_at contests c)) (column_over contests s c rs)

-- the row of those of these records that stand in it, if any does
abbrev pub row_over : List Contest → Facts → RowKey → List RecordName → Option Row
row_over contests s q rs =
    let standing = filter (stands_in contests s q) rs in
    if length standing == 0 then None else Some (row_of contests s q.contest standing)

-- the row of all records that stand in it
abbrev pub row : List Contest → Facts → RowKey → Option Row
row contests s q = row_over contests s q (records s)

-- ---- all rows

-- the keys of the rows that a record stands in
abbrev pub keys_at : List Contest → Facts → RecordName → List RowKey
keys_at contests s r = option_map_or (λ head.
    map (λ v. record { contest = v.contest; unit = unit_of head; batch = batch_of head })
    (option_map_or (sums_of_body contests) (current s r) [])) (header s r) []

-- each row that some record stands in
abbrev pub rows : List Contest → Facts → Rows
rows contests s = from_entries (filter_map (λ q. option_map (λ r. (q, r)) (row contests s q))
    (flat_map (keys_at contests s) (records s)))

-- the printed lines of all rows
abbrev pub tally : List Contest → Facts → List ℕ
tally contests s = tally_text contests (rows contests s)

-- ---- bounds

-- the most that a column of a tally can be
abbrev pub total_limit : ℕ
total_limit = 2 ^ 118

-- each column is below this limit
abbrev pub IsBelow : ℕ → Row → Type 0
IsBelow limit row = (column : Column) → number_in column row < limit
