-- In an accepted file no default of the typed readers stands for a part that is demanded, or for
-- one of another kind or out of range. (NIST SP 1500-103, classes ReportingDevice, CVR to
-- SelectionPosition; limits: this project's own.)
use Rattle.std.specs.Prelude.{◌≡◌, ◌≤◌, ℕ, List, [], None, Some, IsSome, codes, length}
use Rattle.std.specs.List.{Contains}
use Rattle.serde_json.specs.Data.{Data}
use Rattle.serde_json.specs.Find.{get, as_array, as_object}
use Rattle.cdf_form.specs.declared.table.Group.TheVariants as group
use Rattle.cdf_form.specs.declared.table.Leaf.TheVariants as leaf
use Rattle.cdf_form.specs.declared.table.Kind.TheVariants.{One}
use Rattle.cdf_form.specs.Form.{first}
use Rattle.cdf_form.specs.Records.{cvr_faults}
use Rattle.cdf_form.specs.HasForm.{HasForm}
use Rattle.cdf_parts.specs.Parts.{array_at, text_at, text_in, instant_of}
use Rattle.cdf_parts.specs.Places.{Texts, place_in, Contest, contest_ids, selections_of}
use Rattle.cdf_typed.specs.Typed.{kind_named, indication_named, allocation_named, count_in, cvr_of}
use Rattle.cdf_typed.specs.Range.{CvrInRange, ReportInRange}
use Rattle.cdf_definition.specs.Paths.{each}
use Rattle.cdf_definition.specs.References.{scope_of, in_snapshot}
use Rattle.cdf_definition.specs.Scoped.{contests_alone}
use Rattle.cdf_definition.specs.Resolves.{Resolves}
use Rattle.cdf_definition.specs.Frame.{Frame}
use Rattle.cdf_definition.specs.Sound.{IsFrame}
use Rattle.cdf_definition.specs.Acceptance.{Valid, value_in, report_in}

-- ---- one member

-- the text under a name is there
abbrev pub HasText : List ℕ → Data → Type 0
HasText name d = IsSome (text_in name d)

-- what is under a name, if anything, is a text
abbrev pub MayHaveText : List ℕ → Data → Type 0
MayHaveText name d = (e : Data) → get name d ≡ Some e → HasText name d

-- the number under a name is there, and at most 4,294,967,295
abbrev pub HasCount : List ℕ → Data → Type 0
HasCount name d = (n : ℕ) × (count_in name d ≡ Some n) × (n ≤ 4_294_967_295)

-- what is under a name, if anything, is such a number
abbrev pub MayHaveCount : List ℕ → Data → Type 0
MayHaveCount name d = (e : Data) → get name d ≡ Some e → HasCount name d

-- what is under a name, if anything, is an array, and P holds of each of its items
pub record HasItems (P : Data → Type 0) (name : List ℕ) (d : Data) : Type 0 where
  pub array : (e : Data) → get name d ≡ Some e → IsSome (as_array e)
  pub items : (e : Data) → Contains (array_at name d) e → P e

-- ---- votes

-- No default stands in the typed position of a value: what is demanded is there, and what is there
-- is of its kind and in its range. So it is with the records below.
pub record PositionIsRead (d : Data) : Type 0 where
  pub indication : IsSome (indication_named (text_at (codes "HasIndication") d))
  pub allocation_text : MayHaveText (codes "IsAllocable") d
  pub allocation : (s : List ℕ) → text_in (codes "IsAllocable") d ≡ Some s
      → IsSome (allocation_named s)
  pub votes : HasCount (codes "NumberVotes") d

-- the same of a contest selection, whose contest has these selections; and of a contest, beside
-- those of a definition
pub record SelectionIsRead (ids : Texts) (d : Data) : Type 0 where
  pub id_text : MayHaveText (codes "ContestSelectionId") d
  pub place : (s : List ℕ) → text_in (codes "ContestSelectionId") d ≡ Some s
      → IsSome (place_in ids s)
  pub positions : HasItems PositionIsRead (codes "SelectionPosition") d
  pub some : 1 ≤ length (array_at (codes "SelectionPosition") d)
  pub few : length (array_at (codes "SelectionPosition") d) ≤ 64

pub record ContestIsRead (contests : List Contest) (d : Data) : Type 0 where
  pub id_text : HasText (codes "ContestId") d
  pub place : IsSome (place_in (contest_ids contests) (text_at (codes "ContestId") d))
  pub overvotes : MayHaveCount (codes "Overvotes") d
  pub undervotes : MayHaveCount (codes "Undervotes") d
  pub write_ins : MayHaveCount (codes "WriteIns") d
  pub selections : (ids : Texts) → selections_of contests (text_at (codes "ContestId") d) ≡ Some ids
      → HasItems (SelectionIsRead ids) (codes "CVRContestSelection") d
  pub few : length (array_at (codes "CVRContestSelection") d) ≤ 65_536

-- ---- records

-- the same of an annotation, a snapshot, a cast vote record and a report
pub record AnnotationIsRead (d : Data) : Type 0 where
  pub text : MayHaveText (codes "TimeStamp") d
  pub instant : (s : List ℕ) → text_in (codes "TimeStamp") d ≡ Some s → IsSome (instant_of s)

pub record SnapshotIsRead (contests : List Contest) (d : Data) : Type 0 where
  pub id : HasText (codes "@id") d
  pub kind : IsSome (kind_named (text_at (codes "Type") d))
  pub annotations : HasItems AnnotationIsRead (codes "Annotation") d
  pub votes : HasItems (ContestIsRead contests) (codes "CVRContest") d

pub record CvrIsRead (contests : List Contest) (d : Data) : Type 0 where
  pub object : IsSome (as_object d)
  pub device : HasText (codes "CreatingDeviceId") d
  pub unique : HasText (codes "UniqueId") d
  pub unit : MayHaveText (codes "BallotStyleUnitId") d
  pub batch : MayHaveText (codes "BatchId") d
  pub snapshots : HasItems (SnapshotIsRead contests) (codes "CVRSnapshot") d
  pub some : 1 ≤ length (array_at (codes "CVRSnapshot") d)

pub record ReportIsRead (contests : List Contest) (d : Data) : Type 0 where
  pub listed : IsSome (get (codes "ReportingDevice") d)
  pub devices : HasItems (HasText (codes "@id")) (codes "ReportingDevice") d
  pub cvrs : HasItems (CvrIsRead contests) (codes "CVR") d

-- no default occurs in what has the form of a report and refers to what is there, and each place is
-- one of its own
abbrev pub ReportIsReadLaw : Type 0
ReportIsReadLaw = (d : Data) → HasForm (One (leaf.Object group.Reports)) d → Resolves d
    → ReportIsRead (scope_of d).contests d

-- no default occurs in an accepted file, and each place is one of the definition's
abbrev pub NoDefaultLaw : Type 0
NoDefaultLaw = (frame : Frame) (bytes : List ℕ) → IsFrame frame → Valid frame bytes
    → ReportIsRead frame.contests (value_in bytes)

-- what an accepted file gives is in range: each place is one of the definition's, and no contest
-- stands twice in a snapshot
abbrev pub InRangeLaw : Type 0
InRangeLaw = (frame : Frame) (bytes : List ℕ) → IsFrame frame → Valid frame bytes
    → ReportInRange frame.contests (report_in frame.contests bytes)

-- so is what a record gives, where it has no fault of form and names only contests and selections
-- of these
abbrev pub RecordInRangeLaw : Type 0
RecordInRangeLaw = (contests : List Contest) (cvr : Data) → first (cvr_faults cvr) ≡ None
    → each (in_snapshot (contests_alone contests)) (codes "CVRSnapshot") cvr ≡ []
    → CvrInRange contests (cvr_of contests cvr)
