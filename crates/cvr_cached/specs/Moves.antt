-- How often the rows of a tally are changed where an office takes in facts. (This project's own.)
use Rattle.std.specs.Prelude.{◌≡◌, ◌+◌, ℕ, List, [], length}
use Rattle.std.specs.List.{sum_by}
use Rattle.std.specs.Option.{option_map_or}
use Rattle.std.specs.FinSet.{difference}
use Rattle.cdf_parts.specs.Places.{Contest}
use Rattle.cdf_definition.specs.Frame.{Frame}
use Rattle.cvr_fact_types.specs.declared.name.RecordName.{RecordName}
use Rattle.cvr_fact_types.specs.Facts.{Facts}
use Rattle.cvr_facts.specs.Choosing.{current}
use Rattle.cvr_office.specs.CanHold.{CanHold}
use Rattle.cvr_office.specs.Names.{records}
use Rattle.cvr_office.specs.Tallied.{sums_of_body, keys_at}

-- how many contests the current snapshot of a record has, 0 where the record has none
abbrev pub contests_at : List Contest → Facts → RecordName → ℕ
contests_at contests s r = length (option_map_or (sums_of_body contests) (current s r) [])

-- the records that gain a fact from s to t: each has one in t that isn't in s
abbrev pub gaining_records : Facts → Facts → List RecordName
gaining_records s t = records (difference t s)

-- how often rows are changed where an office that held s comes to hold t: for each record that
-- gains a fact, once for each contest of its current snapshot in s, and once for each of that in t
abbrev pub move_count : List Contest → Facts → Facts → ℕ
move_count contests s t =
    sum_by (λ r. contests_at contests s r + contests_at contests t r) (gaining_records s t)

-- ---- laws

-- in what an office holds, these contests are as many as the rows that the record stands in
abbrev pub RowsOfRecordLaw : Type 0
RowsOfRecordLaw = (frame : Frame) (s : Facts) (r : RecordName) → CanHold frame s
    → contests_at frame.contests s r ≡ length (keys_at frame.contests s r)

-- where no fact is new, no row is changed
abbrev pub NothingMovesLaw : Type 0
NothingMovesLaw = (contests : List Contest) (s : Facts) → move_count contests s s ≡ 0
