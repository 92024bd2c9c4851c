-- What a volume shows of the bodies under a name. (This project's own.)
use Rattle.std.specs.Prelude.{◌≡◌, ◌-◌, ◌<◌, ℕ, List, length, min, slice_index_or}
use Rattle.std.specs.List.{Contains}
use Rattle.cdf_definition.specs.Frame.{Frame}
use Rattle.cvr_fact_types.specs.declared.name.RecordName.{RecordName}
use Rattle.cvr_fact_types.specs.Facts.{Facts}
use Rattle.cvr_office.specs.CanHold.{CanHold}
use Rattle.cvr_office.specs.Names.{records, snapshot_ids}
use Rattle.cvr_office.specs.Readers.{header_list, snapshot_list}
use Rattle.cvr_report.specs.Page.{shown_body}

-- where there is a body, the one that is shown is one of them
abbrev pub ShownListedLaw : Type 0
ShownListedLaw = (i : ℕ) (bodies : List (List ℕ)) → 0 < i → 0 < length bodies
    → Contains bodies (shown_body i bodies)

-- counted from 0 it stands at place i - 1, or at the last place
abbrev pub ShownAtLaw : Type 0
ShownAtLaw = (i : ℕ) (bodies : List (List ℕ)) (other : List ℕ) → 0 < i → 0 < length bodies
    → shown_body i bodies ≡ slice_index_or bodies (min i (length bodies) - 1) other

-- each record that an office holds has a header
abbrev pub HeadedLaw : Type 0
HeadedLaw = (frame : Frame) (s : Facts) → CanHold frame s → (key : RecordName)
    → Contains (records s) key → 0 < length (header_list s key)

-- and each id of its snapshots a body
abbrev pub IdHasBodyLaw : Type 0
IdHasBodyLaw = (frame : Frame) (s : Facts) → CanHold frame s → (key : RecordName) (id : List ℕ)
    → Contains (snapshot_ids s key) id → 0 < length (snapshot_list s key id)
