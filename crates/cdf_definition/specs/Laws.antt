-- Laws of acceptance. (This project's own.)
use Rattle.std.specs.Prelude.{◌≡◌, ◌↔◌, ℕ, List, [], ◌∷◌, reverse, None, false, bytes_eq, codes}
use Rattle.std.specs.List.Sorted.{IsStrictlySortedBy}
use Rattle.std.specs.Ordering.{nat_cmp}
use Rattle.std.specs.Cmp.Lexicographic.{slice_cmp}
use Rattle.serde_json.specs.Data.{Data}
use Rattle.cdf_parts.specs.Parts.{array_at}
use Rattle.cdf_definition.specs.References.{Scope, in_cvr, in_snapshot, missing_paths}
use Rattle.cdf_definition.specs.Resolves.{CvrResolves, SnapshotResolves, Resolves}
use Rattle.cdf_definition.specs.Named.{IdText, by_id, ids_of, text_of}
use Rattle.cdf_definition.specs.Frame.{Frame}
use Rattle.cdf_definition.specs.Agreement.{disagreements, Agrees}
use Rattle.cdf_definition.specs.Sound.{IsSound}
use Rattle.cdf_definition.specs.Acceptance.{IsReport, Sound, Valid, value_refusal, first_unsound}
use Rattle.cdf_definition.specs.Acceptance.{first_refusal}
use Rattle.cdf_definition.specs.Bodies.{IsInHeader}

-- ---- objects by their ids

-- a list of entries by their ids: it rises strictly by id, and beside each id stands the text of
-- the last entry that has it
pub record IsById (es by_ids : List IdText) : Type 0 where
  pub rises : IsStrictlySortedBy (slice_cmp nat_cmp) (ids_of by_ids)
  pub texts : (id : List ℕ) → text_of by_ids id ≡ text_of (reverse es) id

abbrev pub ByIdLaw : Type 0
ByIdLaw = (es : List IdText) → IsById es (by_id es)

-- worked example: of b, a and b again the list has a, and b with its last text
abbrev pub two_of_one_id : List IdText
two_of_one_id = (codes "b", codes "first") ∷ (codes "a", codes "only") ∷ (codes "b", codes "last")
    ∷ []

abbrev pub TwoOfOneId : Type 0
TwoOfOneId = by_id two_of_one_id ≡ (codes "a", codes "only") ∷ (codes "b", codes "last") ∷ []

-- ---- references and agreement

-- every reference names something exactly where no path is missing
abbrev pub ReferencesLaw : Type 0
ReferencesLaw = (d : Data) → (missing_paths d ≡ []) ↔ Resolves d

-- no text of a record names nothing exactly where each of its references names something in the
-- scope
abbrev pub RecordLaw : Type 0
RecordLaw = (scope : Scope) (d : Data) → (in_cvr scope d ≡ []) ↔ CvrResolves scope d

-- so it is with a snapshot
abbrev pub SnapshotLaw : Type 0
SnapshotLaw = (scope : Scope) (d : Data) → (in_snapshot scope d ≡ []) ↔ SnapshotResolves scope d

-- every object is the definition's exactly where none differs
abbrev pub AgreementLaw : Type 0
AgreementLaw = (frame : Frame) (d : Data) → (disagreements frame d ≡ []) ↔ Agrees frame d

-- ---- acceptance

-- a value has no fault exactly where it is a report
abbrev pub SoundLaw : Type 0
SoundLaw = (d : Data) → IsSound d ↔ IsReport d

-- it is accepted beside a definition exactly where there is no cause to refuse it
abbrev pub ValueLaw : Type 0
ValueLaw = (frame : Frame) (d : Data) → (value_refusal frame d ≡ None)
    ↔ (IsReport d × Agrees frame d)

-- a file can serve as a definition exactly where there is no cause to refuse it
abbrev pub SoundFileLaw : Type 0
SoundFileLaw = (bytes : List ℕ) → (first_unsound bytes ≡ None) ↔ Sound bytes

-- a file is accepted beside a definition exactly where there is no cause to refuse it
abbrev pub ValidFileLaw : Type 0
ValidFileLaw = (frame : Frame) (bytes : List ℕ)
    → (first_refusal frame bytes ≡ None) ↔ Valid frame bytes

-- ---- reports

-- a report has one election
abbrev pub OneElectionLaw : Type 0
OneElectionLaw = (d : Data) → IsReport d → (e : Data) × (array_at (codes "Election") d ≡ e ∷ [])

-- a header keeps each member but for the two that it leaves out
abbrev pub HeaderMembersLaw : Type 0
HeaderMembersLaw = (name : List ℕ) → bytes_eq name (codes "CVRSnapshot") ≡ false
    → bytes_eq name (codes "CurrentSnapshotId") ≡ false → IsInHeader name
