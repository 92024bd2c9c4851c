-- The typed report of a value: a total function of the data, with a default where a part is absent
-- or of another kind, such as 0, none or no items. In an accepted file no default stands for a part
-- that is demanded. (NIST SP 1500-103, classes CastVoteRecordReport to SelectionPosition.)
use Rattle.std.specs.Prelude.{ℕ, ℤ, List, [], ◌∷◌, map, find, bytes_eq, Option, Some, None}
use Rattle.std.specs.Prelude.{option_map, option_and_then, unwrap_or, codes}
use Rattle.std.specs.List.{filter_map}
use Rattle.std.specs.Ordering.{int_cmp}
use Rattle.serde_json.specs.Data.{Data, null, object}
use Rattle.serde_json.specs.Find.{get, as_number, as_object, as_u64}
use Rattle.serde_json.specs.Written.{compact_text}
use Rattle.cdf_types.specs.declared.snapshot_kind.SnapshotKind.{SnapshotKind}
use Rattle.cdf_types.specs.declared.snapshot_kind.SnapshotKind.TheVariants as kind
use Rattle.cdf_types.specs.declared.mark.Indication.{Indication}
use Rattle.cdf_types.specs.declared.mark.Indication.TheVariants as indication
use Rattle.cdf_types.specs.declared.mark.Allocation.{Allocation}
use Rattle.cdf_types.specs.declared.mark.Allocation.TheVariants as allocation
use Rattle.cdf_types.specs.SnapshotKind.{snapshot_kind_text}
use Rattle.cdf_types.specs.Mark.{indication_text, allocation_text}
use Rattle.cdf_types.specs.declared.report.Position.{Position}
use Rattle.cdf_types.specs.declared.report.SelectionVote.{SelectionVote}
use Rattle.cdf_types.specs.declared.report.ContestVote.{ContestVote}
use Rattle.cdf_types.specs.declared.report.Snapshot.{Snapshot}
use Rattle.cdf_types.specs.declared.report.Cvr.{Cvr}
use Rattle.cdf_types.specs.declared.report.ReportingDevice.{ReportingDevice}
use Rattle.cdf_types.specs.declared.report.Report.{Report}
use Rattle.cdf_parts.specs.Parts.{array_at, text_at, text_in, id_of, instant_of}
use Rattle.cdf_parts.specs.Places.{Texts, place_in, Contest, contest_ids, selections_of}
use Rattle.cdf_parts.specs.Removing.{without}
use Rattle.cdf_typed.specs.Greatest.{max_by}

-- ---- listed texts and numbers

-- the kind that a text names, if it names one
abbrev pub kind_named : List ℕ → Option SnapshotKind
kind_named text = find (λ k. bytes_eq text (snapshot_kind_text k))
    (kind.Original ∷ kind.Interpreted ∷ kind.Modified ∷ [])

-- the indication that a text names
abbrev pub indication_named : List ℕ → Option Indication
indication_named text = find (λ i. bytes_eq text (indication_text i))
    (indication.No ∷ indication.Unknown ∷ indication.Yes ∷ [])

-- the allocation that a text names
abbrev pub allocation_named : List ℕ → Option Allocation
allocation_named text = find (λ a. bytes_eq text (allocation_text a))
    (allocation.No ∷ allocation.Unknown ∷ allocation.Yes ∷ [])

-- the whole number from 0 under a name, if there is one
abbrev pub count_in : List ℕ → Data → Option ℕ
count_in name d = option_and_then as_u64 (option_and_then as_number (get name d))

-- the whole number from 0 under a name, or 0
abbrev pub count_at : List ℕ → Data → ℕ
count_at name d = unwrap_or (count_in name d) 0

-- ---- votes

-- The typed position of a value. Without a known HasIndication it has no mark.
abbrev pub position_of : Data → Position
position_of d = record {
  indication = unwrap_or (indication_named (text_at (codes "HasIndication") d)) indication.No;
  allocation = option_and_then allocation_named (text_in (codes "IsAllocable") d);
  votes = count_at (codes "NumberVotes") d;
}

-- the place of the selection that is named among those of its contest
abbrev pub selection_place : Option Texts → Option (List ℕ) → Option ℕ
selection_place None id = None
selection_place (Some ids) id = option_and_then (place_in ids) id

-- the typed contest selection of a value: its selection by the place among the ids of its contest,
-- and its positions
abbrev pub selection_vote_of : Option Texts → Data → SelectionVote
selection_vote_of ids d = record {
  selection = selection_place ids (text_in (codes "ContestSelectionId") d);
  positions = map position_of (array_at (codes "SelectionPosition") d);
}

-- the typed contest of a value: the contest and its selections by their places in the definition,
-- and its numbers, 0 where one is absent
abbrev pub contest_vote_of : List Contest → Data → ContestVote
contest_vote_of contests d = record {
  contest = unwrap_or (place_in (contest_ids contests) (text_at (codes "ContestId") d)) 0;
  overvotes = count_at (codes "Overvotes") d;
  undervotes = count_at (codes "Undervotes") d;
  write_ins = count_at (codes "WriteIns") d;
  selections = map (selection_vote_of (selections_of contests (text_at (codes "ContestId") d)))
      (array_at (codes "CVRContestSelection") d);
}

-- ---- snapshots

-- the kind of a snapshot, by its Type
abbrev pub kind_of : Data → SnapshotKind
kind_of snapshot = unwrap_or (kind_named (text_at (codes "Type") snapshot)) kind.Original

-- the instant of an annotation's TimeStamp, if it has one
abbrev pub instant_in : Data → Option ℤ
instant_in annotation = option_and_then instant_of (text_in (codes "TimeStamp") annotation)

-- the greatest instant of a snapshot's annotations, if there is one
abbrev pub moment_of : Data → Option ℤ
moment_of snapshot = max_by int_cmp (filter_map instant_in (array_at (codes "Annotation") snapshot))

-- The typed snapshot of a value. Its body is its compact text.
abbrev pub snapshot_of : List Contest → Data → Snapshot
snapshot_of contests d = record {
  id = id_of d;
  kind = kind_of d;
  moment = moment_of d;
  contests = map (contest_vote_of contests) (array_at (codes "CVRContest") d);
  body = compact_text d;
}

-- ---- cast vote records

-- the object without its members CVRSnapshot and CurrentSnapshotId
abbrev pub header_of : Data → Data
header_of d = unwrap_or (option_map (λ ms.
    object (without (codes "CurrentSnapshotId") (without (codes "CVRSnapshot") ms))) (as_object d))
    null

-- The typed record of a CVR. Its body is the compact text of its header.
abbrev pub cvr_of : List Contest → Data → Cvr
cvr_of contests d = record {
  device = text_at (codes "CreatingDeviceId") d;
  unique = text_at (codes "UniqueId") d;
  unit = text_in (codes "BallotStyleUnitId") d;
  batch = text_in (codes "BatchId") d;
  body = compact_text (header_of d);
  snapshots = map (snapshot_of contests) (array_at (codes "CVRSnapshot") d);
}

-- ---- reports

-- the typed device of a ReportingDevice: its id, and its compact text as body
abbrev pub device_of : Data → ReportingDevice
device_of d = record { id = id_of d; body = compact_text d }

-- the typed report of a value: its devices and its records, with contests and selections by their
-- places among those of a definition
abbrev pub report_of : List Contest → Data → Report
report_of contests d = record {
  devices = map device_of (array_at (codes "ReportingDevice") d);
  cvrs = map (cvr_of contests) (array_at (codes "CVR") d);
}
