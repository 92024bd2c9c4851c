-- Laws of numbers: of new facts, of bodies under a name, of columns. (This project's own.)
use Rattle.std.specs.Prelude.{◌≡◌, ◌↔◌, ◌+◌, ◌==◌, ◌≤◌, ℕ, List, length, is_some}
use Rattle.std.specs.List.{Contains, filter, sum_by}
use Rattle.std.specs.Option.{option_map_or}
use Rattle.std.specs.FinMap.{entries}
use Rattle.std.specs.FinSet.{len, union}
use Rattle.cdf_parts.specs.Places.{Contest}
use Rattle.cdf_definition.specs.Frame.{Frame}
use Rattle.cvr_fact_types.specs.declared.name.RecordName.{RecordName}
use Rattle.cvr_fact_types.specs.Columns.{Column, Ballots, worth}
use Rattle.cvr_fact_types.specs.Facts.{Facts}
use Rattle.cvr_tally.specs.Rows.{Rows, number_in}
use Rattle.cvr_office.specs.declared.conflict.ConflictName.{ConflictName}
use Rattle.cvr_office.specs.Names.{records, count_under, conflicts}
use Rattle.cvr_office.specs.Readers.{growth}
use Rattle.cvr_office.specs.CanHold.{CanHold}
use Rattle.cvr_office.specs.Tallied.{sums_at, rows}

-- the facts of a set and those by which it grows are as many as those of the union
abbrev pub GrowthLaw : Type 0
GrowthLaw = (s t : Facts) → len s + growth s t ≡ len (union s t)

-- a name is among the conflicts with a number exactly where that is the number of its bodies, and
-- at least 2
abbrev pub ConflictsLaw : Type 0
ConflictsLaw = (s : Facts) (n : ConflictName) (k : ℕ)
    → Contains (conflicts s) (record { name = n; bodies = k }) ↔ ((count_under s n ≡ k) × (2 ≤ k))

-- ---- columns

-- what a column comes to over all rows of a contest
abbrev pub total_of : Rows → ℕ → Column → ℕ
total_of rows c column =
    sum_by (λ e. number_in column e.1) (filter (λ e. e.0.contest == c) (entries rows))

-- what the current snapshots of all records come to in it
abbrev pub total_of_records : List Contest → Facts → ℕ → Column → ℕ
total_of_records contests s c column =
    sum_by (λ r. option_map_or (worth column) (sums_at contests s c r) 0) (records s)

-- these are the same
abbrev pub ColumnsLaw : Type 0
ColumnsLaw = (frame : Frame) (s : Facts) (c : ℕ) (column : Column) → CanHold frame s
    → total_of (rows frame.contests s) c column ≡ total_of_records frame.contests s c column

-- the records whose current snapshot has a contest
abbrev pub records_with : List Contest → Facts → ℕ → List RecordName
records_with contests s c = filter (λ r. is_some (sums_at contests s c r)) (records s)

-- the ballots of a contest are as many as these records
abbrev pub AddUpLaw : Type 0
AddUpLaw = (frame : Frame) (s : Facts) (c : ℕ) → CanHold frame s
    → total_of (rows frame.contests s) c Ballots ≡ length (records_with frame.contests s c)
