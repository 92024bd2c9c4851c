-- Laws of the sums of an office's facts, and of what a record adds to a row. (This project's own.)
use Rattle.std.specs.Prelude.{◌≡◌, ℕ, List, [], ◌∷◌, ◌++◌, true, Some, None}
use Rattle.std.specs.FinSet.{contains}
use Rattle.cdf_parts.specs.Places.{Contest}
use Rattle.cdf_definition.specs.Frame.{Frame}
use Rattle.cvr_fact_types.specs.declared.name.RecordName.{RecordName}
use Rattle.cvr_fact_types.specs.declared.sums.VoteSums.{VoteSums}
use Rattle.cvr_fact_types.specs.Facts.{Facts, Snapshot}
use Rattle.cvr_facts.specs.Choosing.{header, current}
use Rattle.cvr_tally.specs.declared.key.RowKey.{RowKey}
use Rattle.cvr_office.specs.CanHold.{CanHold}
use Rattle.cvr_office.specs.Tallied.{unit_of, batch_of, sums_of_body, sums_at, row_over}
use Rattle.cvr_office.specs.Adding.{IsSums, AreSums, CurrentsAreSums, added_sums, sums_for}
use Rattle.cvr_office.specs.Adding.{row_with}

-- ---- sums

-- those of each current snapshot, and of each snapshot, are of contests of the definition
abbrev pub CurrentSumsLaw : Type 0
CurrentSumsLaw = (frame : Frame) (s : Facts) → CanHold frame s → CurrentsAreSums frame.contests s

abbrev pub SnapshotSumsLaw : Type 0
SnapshotSumsLaw = (frame : Frame) (s : Facts) → CanHold frame s → (d u i b : List ℕ)
    → contains s (Snapshot d u i b) ≡ true → AreSums frame.contests (sums_of_body frame.contests b)

-- so are those of a record in a contest
abbrev pub SumsAtLaw : Type 0
SumsAtLaw = (contests : List Contest) (s : Facts) → CurrentsAreSums contests s
    → (c : ℕ) (r : RecordName) (v : VoteSums) → sums_at contests s c r ≡ Some v
    → IsSums contests v × (v.contest ≡ c)

-- ---- rows

-- a row with one record more is the row with what that record adds
abbrev pub RowMoreLaw : Type 0
RowMoreLaw = (contests : List Contest) (s : Facts) → CurrentsAreSums contests s
    → (q : RowKey) (rs : List RecordName) (r : RecordName)
    → row_over contests s q (rs ++ r ∷ [])
    ≡ row_with contests q (row_over contests s q rs) (added_sums contests s q r)

-- what a record adds comes from its greatest header and its current snapshot
abbrev pub AddedLaw : Type 0
AddedLaw = (contests : List Contest) (s : Facts) (q : RowKey) (r : RecordName) (head body : List ℕ)
    → header s r ≡ Some head → current s r ≡ Some body
    → added_sums contests s q r ≡ sums_for (unit_of head) (batch_of head) q
    (sums_of_body contests body)

-- nothing where it has no header, or no current snapshot
abbrev pub NoHeaderLaw : Type 0
NoHeaderLaw = (contests : List Contest) (s : Facts) (q : RowKey) (r : RecordName)
    → header s r ≡ None → added_sums contests s q r ≡ None

abbrev pub NoCurrentLaw : Type 0
NoCurrentLaw = (contests : List Contest) (s : Facts) (q : RowKey) (r : RecordName)
    → current s r ≡ None → added_sums contests s q r ≡ None
