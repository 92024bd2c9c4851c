-- Every reference names something in its report: the same as an empty list of paths, with no paths
-- and no order. (NIST SP 1500-103.)
use Rattle.std.specs.Prelude.{◌≡◌, ℕ, List, Some, codes}
use Rattle.std.specs.List.{Contains}
use Rattle.serde_json.specs.Data.{Data}
use Rattle.serde_json.specs.Find.{as_str}
use Rattle.cdf_form.specs.declared.table.Class.TheVariants as class
use Rattle.cdf_form.specs.declared.table.Group.TheVariants as group
use Rattle.cdf_form.specs.Form.{class_in}
use Rattle.cdf_parts.specs.Parts.{array_at, ids_at, text_in, text_at}
use Rattle.cdf_parts.specs.Places.{Texts, contest_ids, selections_of}
use Rattle.cdf_definition.specs.References.{Scope, scope_of}

-- the text under a name, if there is one, is one of the ids
abbrev pub Names : Texts → List ℕ → Data → Type 0
Names ids name d = (s : List ℕ) → text_in name d ≡ Some s → Contains ids s

-- each text in the array under a name is one of the ids
abbrev pub AllName : Texts → List ℕ → Data → Type 0
AllName ids name d = (e : Data) (s : List ℕ) → Contains (array_at name d) e → as_str e ≡ Some s
    → Contains ids s

-- P holds of each item of the array under a name
abbrev pub Each : (Data → Type 0) → List ℕ → Data → Type 0
Each P name d = (e : Data) → Contains (array_at name d) e → P e

-- a contest of a snapshot names a contest of the scope, and each of its selections one of that
-- contest's
pub record VoteResolves (scope : Scope) (d : Data) : Type 0 where
  pub contest : Names (contest_ids scope.contests) (codes "ContestId") d
  pub selections : (ids : Texts) → selections_of scope.contests (text_at (codes "ContestId") d)
      ≡ Some ids
      → Each (Names ids (codes "ContestSelectionId")) (codes "CVRContestSelection") d

-- every reference of a snapshot names something in the scope
abbrev pub SnapshotResolves : Scope → Data → Type 0
SnapshotResolves scope d = Each (VoteResolves scope) (codes "CVRContest") d

-- every reference of a cast vote record names something in the scope, or a snapshot of its own
pub record CvrResolves (scope : Scope) (d : Data) : Type 0 where
  pub unit : Names scope.units (codes "BallotStyleUnitId") d
  pub snapshots : Each (SnapshotResolves scope) (codes "CVRSnapshot") d
  pub device : Names scope.devices (codes "CreatingDeviceId") d
  pub current : Names (ids_at (codes "CVRSnapshot") d) (codes "CurrentSnapshotId") d
  pub election : Names scope.elections (codes "ElectionId") d
  pub parties : AllName scope.parties (codes "PartyIds") d

-- every reference of a contest selection names a candidate of its election, or a party of the scope
pub record SelectionResolves (scope : Scope) (candidate_ids : Texts) (d : Data) : Type 0 where
  pub candidates : class_in group.ContestSelections d ≡ Some class.CandidateSelection
      → AllName candidate_ids (codes "CandidateIds") d
  pub parties : class_in group.ContestSelections d ≡ Some class.PartySelection
      → AllName scope.parties (codes "PartyIds") d

-- every reference of an election names something in the scope, or a candidate of its own
pub record ElectionResolves (scope : Scope) (d : Data) : Type 0 where
  pub candidates : Each (Names scope.parties (codes "PartyId")) (codes "Candidate") d
  pub contests : Each (Each (SelectionResolves scope (ids_at (codes "Candidate") d))
      (codes "ContestSelection")) (codes "Contest") d
  pub unit : Names scope.units (codes "ElectionScopeId") d

-- every reference of a report names something in the report
pub record Resolves (d : Data) : Type 0 where
  pub cvrs : Each (CvrResolves (scope_of d)) (codes "CVR") d
  pub elections : Each (ElectionResolves (scope_of d)) (codes "Election") d
  pub devices : AllName (scope_of d).devices (codes "ReportGeneratingDeviceIds") d
