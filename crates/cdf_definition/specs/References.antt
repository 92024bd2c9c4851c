-- The texts that name nothing in their report, in the order of the walk. (NIST SP 1500-103: members
-- whose value is the @id of another object.)
use Rattle.std.specs.Prelude.{ℕ, List, [], ◌++◌, map, bytes_eq, Option, Some, None, codes}
use Rattle.std.specs.List.{list_any}
use Rattle.serde_json.specs.Data.{Data}
use Rattle.serde_json.specs.Find.{as_str}
use Rattle.cdf_form.specs.declared.table.Class.{Class}
use Rattle.cdf_form.specs.declared.table.Class.TheVariants as class
use Rattle.cdf_form.specs.declared.table.Group.TheVariants as group
use Rattle.cdf_form.specs.Form.{at_member, class_in}
use Rattle.cdf_parts.specs.Parts.{array_at, ids_at, text_in, text_at, the_election}
use Rattle.cdf_parts.specs.Places.{Texts, Contest, contest_of, contest_ids, selections_of}
use Rattle.cdf_definition.specs.Paths.{Path, below, itself_unless, each}

-- the ids that can be named
pub record Scope : Type 0 where
  pub elections : Texts
  pub units : Texts
  pub parties : Texts
  pub devices : Texts
  pub contests : List Contest

-- the ids that can be named in a report: those of its own objects
abbrev pub scope_of : Data → Scope
scope_of d = record {
  elections = ids_at (codes "Election") d;
  units = ids_at (codes "GpUnit") d;
  parties = ids_at (codes "Party") d;
  devices = ids_at (codes "ReportingDevice") d;
  contests = map contest_of (array_at (codes "Contest") (the_election d));
}

-- ---- one text

-- a text, if there is one, that is none of the ids
abbrev pub unknown : Texts → Option (List ℕ) → List Path
unknown ids None = []
unknown ids (Some s) = itself_unless (list_any (bytes_eq s) ids)

-- the path of the text under a name, where that text is none of the ids
abbrev pub one : Texts → List ℕ → Data → List Path
one ids name d = below (at_member name) (unknown ids (text_in name d))

-- the paths of those texts in the array under a name that are none of the ids
abbrev pub many : Texts → List ℕ → Data → List Path
many ids name d = each (λ e. unknown ids (as_str e)) name d

-- ---- cast vote records

-- The ContestSelectionId of a contest selection, where it is none of its contest's selections.
-- Where the contest itself is unknown, the contest is the fault, and no selection of it.
abbrev pub in_selection_vote : Option Texts → Data → List Path
in_selection_vote None d = []
in_selection_vote (Some ids) d = one ids (codes "ContestSelectionId") d

-- those of a contest's selections
abbrev pub in_votes : Scope → Data → List Path
in_votes scope d = each (in_selection_vote
    (selections_of scope.contests (text_at (codes "ContestId") d))) (codes "CVRContestSelection") d

-- those of a contest in a snapshot: of its selections, then its own ContestId
abbrev pub in_contest_vote : Scope → Data → List Path
in_contest_vote scope d = in_votes scope d ++ one (contest_ids scope.contests) (codes "ContestId") d

-- those of a snapshot: of each of its contests
abbrev pub in_snapshot : Scope → Data → List Path
in_snapshot scope d = each (in_contest_vote scope) (codes "CVRContest") d

-- the texts of a cast vote record that name nothing in the scope, in the order of the walk
abbrev pub in_cvr : Scope → Data → List Path
in_cvr scope d = one scope.units (codes "BallotStyleUnitId") d
    ++ (each (in_snapshot scope) (codes "CVRSnapshot") d
    ++ (one scope.devices (codes "CreatingDeviceId") d
    ++ (one (ids_at (codes "CVRSnapshot") d) (codes "CurrentSnapshotId") d
    ++ (one scope.elections (codes "ElectionId") d
    ++ many scope.parties (codes "PartyIds") d))))

-- ---- elections

-- those of a contest selection, by its class: its CandidateIds or its PartyIds
abbrev pub in_class : Scope → Texts → Option Class → Data → List Path
in_class scope candidates (Some class.CandidateSelection) d =
    many candidates (codes "CandidateIds") d
in_class scope candidates (Some class.PartySelection) d = many scope.parties (codes "PartyIds") d
in_class scope candidates _ d = []

-- those of a contest selection, and of a contest, of an election
abbrev pub in_selection : Scope → Texts → Data → List Path
in_selection scope candidates d = in_class scope candidates (class_in group.ContestSelections d) d

abbrev pub in_contest : Scope → Texts → Data → List Path
in_contest scope candidates d = each (in_selection scope candidates) (codes "ContestSelection") d

-- the PartyId of a candidate, where it is none of the parties
abbrev pub in_candidate : Scope → Data → List Path
in_candidate scope d = one scope.parties (codes "PartyId") d

-- The texts of an election that name nothing, in the order of the walk. A candidate that is named
-- has to be one of the election's own.
abbrev pub in_election : Scope → Data → List Path
in_election scope d = each (in_candidate scope) (codes "Candidate") d
    ++ (each (in_contest scope (ids_at (codes "Candidate") d)) (codes "Contest") d
    ++ one scope.units (codes "ElectionScopeId") d)

-- ---- reports

-- the texts of a report that name nothing in the scope, in the order of the walk
abbrev pub in_report : Scope → Data → List Path
in_report scope d = each (in_cvr scope) (codes "CVR") d
    ++ (each (in_election scope) (codes "Election") d
    ++ many scope.devices (codes "ReportGeneratingDeviceIds") d)

-- the paths of the texts that name nothing in their report
abbrev pub missing_paths : Data → List Path
missing_paths d = in_report (scope_of d) d
