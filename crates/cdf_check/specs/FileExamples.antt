-- Worked examples: a small report, and the answers for it and for files that differ from it in a
-- place. (This project's own.)
use Rattle.std.specs.Prelude.{◌≡◌, ℕ, List, ◌++◌, Option, Some, None, codes}
use Rattle.cdf_types.specs.declared.fault.ReadFault.{ReadFault}
use Rattle.cdf_types.specs.declared.fault.ReadFault.TheVariants.{Schema, Reference, Disagrees}
use Rattle.cdf_types.specs.declared.rule.Rule.TheVariants.{Missing, Fractional, RepeatedId}
use Rattle.cdf_types.specs.declared.rule.Rule.TheVariants.{NotWhole}
use Rattle.cdf_definition.specs.Acceptance.{first_unsound, first_refusal, frame_in}
pub use Rattle.cdf_definition.specs.Sample.{election, units, devices_text, report_with, report}
pub use Rattle.cdf_definition.specs.Sample.{definition_file}

-- ---- the report's parts

-- a snapshot of this Type, with a mark for a selection of a contest, whose position has the text of
-- one more member
abbrev pub snapshot_for : List ℕ → List ℕ → List ℕ → List ℕ → List ℕ
snapshot_for contest selection kind more =
    codes "{\"@id\":\"a\",\"@type\":\"CVR.CVRSnapshot\",\"CVRContest\":[{\"@type\":\"CVR.CVRContest\",\"CVRContestSelection\":[" ++
    codes "{\"@type\":\"CVR.CVRContestSelection\",\"ContestSelectionId\":\"" ++ selection
    ++ codes "\",\"SelectionPosition\":[" ++
    codes "{\"@type\":\"CVR.SelectionPosition\"," ++ more
    ++ codes "\"HasIndication\":\"yes\",\"NumberVotes\":1}]}]," ++
    codes "\"ContestId\":\"" ++ contest ++ codes "\"}],\"Type\":\"" ++ kind ++ codes "\"}"

-- one with a mark for Ann as mayor
abbrev pub snapshot : List ℕ → List ℕ → List ℕ
snapshot kind more = snapshot_for (codes "mayor") (codes "ann") kind more

-- a cast vote record of this election with these snapshots, that calls one current, with the text
-- of one more member at its end
abbrev pub cvr_of : List ℕ → List ℕ → List ℕ → List ℕ → List ℕ
cvr_of its_election current snapshots more =
    codes "{\"@type\":\"CVR.CVR\",\"BallotStyleUnitId\":\"p1\",\"CVRSnapshot\":[" ++ snapshots ++
    codes "],\"CreatingDeviceId\":\"s1\",\"CurrentSnapshotId\":\"" ++ current
    ++ codes "\",\"ElectionId\":\"" ++ its_election ++ codes "\"" ++ more ++ codes "}"

-- one of the election, that calls its snapshot current
abbrev pub cvr : List ℕ → List ℕ → List ℕ
cvr snapshots more = cvr_of (codes "e") (codes "a") snapshots more

-- the record's own name
abbrev pub named : List ℕ
named = codes ",\"UniqueId\":\"u1\""

-- a scanner's mark for Ann
abbrev pub scan_for_ann : List ℕ
scan_for_ann = cvr (snapshot (codes "original") (codes "")) named

-- two records, the first without UniqueId, the second with an unlisted Type
abbrev pub two_faults : List ℕ
two_faults = cvr (snapshot (codes "original") (codes "")) (codes "") ++ codes ","
    ++ cvr (snapshot (codes "final") (codes "")) named

-- ---- the files

-- one record with one snapshot
abbrev pub one_file : List ℕ
one_file = report scan_for_ann (codes "")

-- two faults of form
abbrev pub two_faults_file : List ℕ
two_faults_file = report two_faults (codes "")

-- two faults of form, and a number that isn't whole under a name that no table lists
abbrev pub fraction_file : List ℕ
fraction_file = report two_faults (codes "\"Extra\":1.5,")

-- a position with fractional votes
abbrev pub fractional_votes_file : List ℕ
fractional_votes_file = report (cvr (snapshot (codes "original")
    (codes "\"FractionalVotes\":\"1/2\",")) named) (codes "")

-- a number that isn't whole under the name `a/b~`
abbrev pub escaped_file : List ℕ
escaped_file = report scan_for_ann (codes "\"a/b~\":1.5,")

-- a snapshot's id that comes twice
abbrev pub repeated_id_file : List ℕ
repeated_id_file =
    report (cvr (snapshot (codes "original") (codes "") ++ codes ","
    ++ snapshot (codes "modified") (codes "")) named) (codes "")

-- a selection of another contest
abbrev pub other_selection_file : List ℕ
other_selection_file = report (cvr (snapshot_for (codes "mayor") (codes "yes") (codes "original")
    (codes "")) named) (codes "")

-- a contest that the election doesn't have
abbrev pub unknown_contest_file : List ℕ
unknown_contest_file = report (cvr (snapshot_for (codes "zz") (codes "ann") (codes "original")
    (codes "")) named) (codes "")

-- a current snapshot that the record doesn't have
abbrev pub unknown_current_file : List ℕ
unknown_current_file = report (cvr_of (codes "e") (codes "zz")
    (snapshot (codes "original") (codes "")) named) (codes "")

-- an election with one more member
abbrev pub other_election_file : List ℕ
other_election_file =
    report_with scan_for_ann (election (codes ",\"Name\":\"x\"")) (units (codes "")) (codes "")

-- a unit with one more member
abbrev pub other_unit_file : List ℕ
other_unit_file =
    report_with scan_for_ann (election (codes "")) (units (codes ",\"Name\":\"x\"")) (codes "")

-- the same, and a record of another election
abbrev pub other_unit_and_election_file : List ℕ
other_unit_and_election_file =
    report_with (cvr_of (codes "x") (codes "a") (snapshot (codes "original") (codes "")) named)
    (election (codes "")) (units (codes ",\"Name\":\"x\"")) (codes "")

-- ---- the answers

-- the answer for a file beside the definition
abbrev pub RefusedFor : List ℕ → Option ReadFault → Type 0
RefusedFor bytes fault = first_refusal (frame_in definition_file) bytes ≡ fault

-- the first contest selection of a file
abbrev pub selection_path : List ℕ
selection_path = codes "/CVR/0/CVRSnapshot/0/CVRContest/0/CVRContestSelection/0/"

-- a file with a record can serve as a definition, and is accepted
abbrev pub OneDefinition : Type 0
OneDefinition = first_unsound one_file ≡ None

abbrev pub OneFile : Type 0
OneFile = RefusedFor one_file None

-- the first fault is reported, and not the later one
abbrev pub FirstFault : Type 0
FirstFault = RefusedFor two_faults_file (Some (Schema (codes "/CVR/0/UniqueId") Missing))

-- the number that isn't whole comes before every other fault
abbrev pub FractionFirst : Type 0
FractionFirst = RefusedFor fraction_file (Some (Schema (codes "/Extra") NotWhole))

-- fractional votes are refused, whatever their text
abbrev pub FractionalVotes : Type 0
FractionalVotes = RefusedFor fractional_votes_file
    (Some (Schema (selection_path ++ codes "SelectionPosition/0/FractionalVotes") Fractional))

-- the path spells `/` and `~` of a name as `~1` and `~0`
abbrev pub EscapedPath : Type 0
EscapedPath = RefusedFor escaped_file (Some (Schema (codes "/a~1b~0") NotWhole))

-- the fault stands at the later id
abbrev pub RepeatedSnapshot : Type 0
RepeatedSnapshot =
    RefusedFor repeated_id_file (Some (Schema (codes "/CVR/0/CVRSnapshot/1/@id") RepeatedId))

-- a selection has to be one of the contest that it stands in
abbrev pub OtherSelection : Type 0
OtherSelection = RefusedFor other_selection_file
    (Some (Reference (selection_path ++ codes "ContestSelectionId")))

-- an unknown contest is itself the fault, and the selections under it are not
abbrev pub UnknownContest : Type 0
UnknownContest = RefusedFor unknown_contest_file
    (Some (Reference (codes "/CVR/0/CVRSnapshot/0/CVRContest/0/ContestId")))

abbrev pub UnknownCurrent : Type 0
UnknownCurrent =
    RefusedFor unknown_current_file (Some (Reference (codes "/CVR/0/CurrentSnapshotId")))

-- each object has to be the definition's
abbrev pub OtherElection : Type 0
OtherElection = RefusedFor other_election_file (Some (Disagrees (codes "/Election/0")))

abbrev pub OtherUnit : Type 0
OtherUnit = RefusedFor other_unit_file (Some (Disagrees (codes "/GpUnit/0")))

-- a reference is reported before a disagreement
abbrev pub ReferenceFirst : Type 0
ReferenceFirst =
    RefusedFor other_unit_and_election_file (Some (Reference (codes "/CVR/0/ElectionId")))
