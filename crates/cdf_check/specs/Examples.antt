-- Worked examples of references, of agreement and of equal definitions: a report that has each
-- reference, and the answers for reports that differ from it in a text. (Members whose value is an
-- @id: NIST SP 1500-103; the answers are this project's own.)
use Rattle.std.specs.Prelude.{◌≡◌, ◌≢◌, ℕ, List, [], ◌∷◌, ◌++◌, length, map, if◌then◌else◌, Option}
use Rattle.std.specs.Prelude.{Some, None, option_map, bytes_eq, codes}
use Rattle.serde_json.specs.Read.{read}
use Rattle.cdf_types.specs.declared.fault.ReadFault.{ReadFault}
use Rattle.cdf_types.specs.declared.fault.ReadFault.TheVariants.{TooLong, NotJson, Disagrees}
use Rattle.cdf_form.specs.Path.{path_text}
use Rattle.cdf_definition.specs.References.{missing_paths}
use Rattle.cdf_definition.specs.Frame.{IsSame}
use Rattle.cdf_definition.specs.Acceptance.{first_unsound, first_refusal, frame_in}

-- ---- the report

-- the text that stands at a member, from the member's name with its class, and the text of the
-- plain report
abbrev pub TextAt : Type 0
TextAt = List ℕ → List ℕ → List ℕ

abbrev pub plain : TextAt
plain member text = text

-- the plain text, but for one member
abbrev pub but : List ℕ → List ℕ → TextAt
but changed other member text = if bytes_eq member changed then other else text

-- an object's id and class, with the text of its other members
abbrev pub object : List ℕ → List ℕ → List ℕ → List ℕ
object id class more = codes "{\"@id\":\"" ++ id ++ codes "\",\"@type\":\"CVR." ++ class
    ++ codes "\"" ++ more ++ codes "}"

-- a member whose text may be changed
abbrev pub member : TextAt → List ℕ → List ℕ → List ℕ → List ℕ
member at class name text =
    codes ",\"" ++ name ++ codes "\":\"" ++ at (class ++ codes "." ++ name) text ++ codes "\""

-- one whose value is an array of two texts: one that stays, and one that may be changed
abbrev pub members : TextAt → List ℕ → List ℕ → List ℕ → List ℕ
members at class name text = codes ",\"" ++ name ++ codes "\":[\"" ++ text ++ codes "\",\""
    ++ at (class ++ codes "." ++ name) text ++ codes "\"]"

-- Ann, a candidate of the Greens
abbrev pub candidate : TextAt → List ℕ
candidate at = object (codes "ann") (codes "Candidate")
    (member at (codes "Candidate") (codes "PartyId") (codes "green"))

-- a contest for mayor with Ann, and one for the council with the Greens
abbrev pub contests : TextAt → List ℕ
contests at =
    object (codes "mayor") (codes "CandidateContest") (codes ",\"ContestSelection\":[" ++
    object (codes "for-ann") (codes "CandidateSelection")
    (members at (codes "CandidateSelection") (codes "CandidateIds") (codes "ann")) ++ codes "]")
    ++
    codes "," ++
    object (codes "council") (codes "PartyContest") (codes ",\"ContestSelection\":[" ++
    object (codes "for-green") (codes "PartySelection")
    (members at (codes "PartySelection") (codes "PartyIds") (codes "green")) ++ codes "]")

abbrev pub election : TextAt → List ℕ
election at =
    object (codes "e") (codes "Election")
    (codes ",\"Candidate\":[" ++ candidate at ++ codes "],\"Contest\":[" ++ contests at
    ++ codes "]" ++
    member at (codes "Election") (codes "ElectionScopeId") (codes "p1")
    ++ member at (codes "Election") (codes "Name") (codes "fall"))

-- a mark for Ann
abbrev pub snapshot : TextAt → List ℕ → List ℕ
snapshot at id =
    object id (codes "CVRSnapshot") (codes ",\"CVRContest\":[{\"@type\":\"CVR.CVRContest\",\"CVRContestSelection\":[{\"@type\":\"CVR.CVRContestSelection\"" ++
    member at (codes "CVRContestSelection") (codes "ContestSelectionId") (codes "for-ann") ++
    codes ",\"SelectionPosition\":[{\"@type\":\"CVR.SelectionPosition\",\"HasIndication\":\"yes\",\"NumberVotes\":1}]}]" ++
    member at (codes "CVRContest") (codes "ContestId") (codes "mayor")
    ++ codes "}],\"Type\":\"original\"")

-- a cast vote record with one snapshot
abbrev pub cvr : TextAt → List ℕ → List ℕ
cvr at id =
    codes "{\"@type\":\"CVR.CVR\"" ++ member at (codes "CVR") (codes "BallotStyleUnitId")
    (codes "p1") ++ codes ",\"CVRSnapshot\":[" ++ snapshot at id ++ codes "]" ++
    member at (codes "CVR") (codes "CreatingDeviceId") (codes "s1")
    ++ member at (codes "CVR") (codes "CurrentSnapshotId") id ++
    member at (codes "CVR") (codes "BatchId") (codes "b1")
    ++ member at (codes "CVR") (codes "ElectionId") (codes "e")
    ++ members at (codes "CVR") (codes "PartyIds") (codes "green") ++ codes ",\"UniqueId\":\""
    ++ id ++ codes "\"}"

-- a precinct, whose ReportingDeviceIds are kept unread
abbrev pub unit : TextAt → List ℕ
unit at = object (codes "p1") (codes "GpUnit")
    (member at (codes "GpUnit") (codes "Name") (codes "hill")
    ++ codes ",\"ReportingDeviceIds\":[\"none\"]")

abbrev pub party : TextAt → List ℕ
party at = object (codes "green") (codes "Party")
    (member at (codes "Party") (codes "Name") (codes "Greens"))

abbrev pub device : TextAt → List ℕ
device at = object (codes "s1") (codes "ReportingDevice")
    (member at (codes "ReportingDevice") (codes "Model") (codes "M1"))

-- a report of two records, the second of which stays as it is
abbrev pub report : TextAt → List ℕ
report at =
    codes "{\"@type\":\"CVR.CastVoteRecordReport\",\"CVR\":[" ++ cvr at (codes "a") ++ codes ","
    ++ cvr plain (codes "b") ++ codes "],\"Election\":[" ++ election at ++
    codes "],\"GeneratedDate\":\"2024-11-05T20:00:00Z\",\"GpUnit\":[" ++ unit at
    ++ codes "],\"Party\":[" ++ party at ++ codes "]" ++
    members at (codes "CastVoteRecordReport") (codes "ReportGeneratingDeviceIds") (codes "s1")
    ++ codes ",\"ReportingDevice\":[" ++ device at ++ codes "],\"Version\":\"1.0.0\"}"

-- ---- files

-- the plain report is accepted
abbrev pub Plain : Type 0
Plain = first_unsound (report plain) ≡ None

-- an object that doesn't end is no JSON
abbrev pub NotAllOfIt : Type 0
NotAllOfIt = first_unsound (codes "{\"@type\":\"CVR.CastVoteRecordReport\"") ≡ Some NotJson

-- a file of 67,108,865 bytes is too long, whatever it holds, and one of 67,108,864 isn't
abbrev pub OneByteMore : Type 0
OneByteMore = (bytes : List ℕ) → length bytes ≡ 67_108_865 → first_unsound bytes ≡ Some TooLong

abbrev pub LongestFile : Type 0
LongestFile = (bytes : List ℕ) → length bytes ≡ 67_108_864 → first_unsound bytes ≢ Some TooLong

-- ---- references

-- the paths of the texts that name nothing
abbrev pub unnamed : List ℕ → Option (List (List ℕ))
unnamed text = option_map (λ d. map path_text (missing_paths d)) (read text)

-- with this text at the member, only the path of that member is reported
abbrev pub NamesNothing : List ℕ → List ℕ → List ℕ → Type 0
NamesNothing changed other path = unnamed (report (but changed other)) ≡ Some (path ∷ [])

-- each text names nothing where it is the id of an object of another class, or of a part of another
-- record or contest

abbrev pub GeneratingDevice : Type 0
GeneratingDevice = NamesNothing (codes "CastVoteRecordReport.ReportGeneratingDeviceIds")
    (codes "p1") (codes "/ReportGeneratingDeviceIds/1")

abbrev pub CreatingDevice : Type 0
CreatingDevice =
    NamesNothing (codes "CVR.CreatingDeviceId") (codes "p1") (codes "/CVR/0/CreatingDeviceId")

abbrev pub ElectionScope : Type 0
ElectionScope = NamesNothing (codes "Election.ElectionScopeId") (codes "e")
    (codes "/Election/0/ElectionScopeId")

abbrev pub BallotStyleUnit : Type 0
BallotStyleUnit =
    NamesNothing (codes "CVR.BallotStyleUnitId") (codes "s1") (codes "/CVR/0/BallotStyleUnitId")

abbrev pub PartyOfCandidate : Type 0
PartyOfCandidate =
    NamesNothing (codes "Candidate.PartyId") (codes "ann") (codes "/Election/0/Candidate/0/PartyId")

abbrev pub PartyOfSelection : Type 0
PartyOfSelection = NamesNothing (codes "PartySelection.PartyIds") (codes "ann")
    (codes "/Election/0/Contest/1/ContestSelection/0/PartyIds/1")

abbrev pub PartyOfRecord : Type 0
PartyOfRecord = NamesNothing (codes "CVR.PartyIds") (codes "p1") (codes "/CVR/0/PartyIds/1")

abbrev pub CandidateOfSelection : Type 0
CandidateOfSelection = NamesNothing (codes "CandidateSelection.CandidateIds") (codes "green")
    (codes "/Election/0/Contest/0/ContestSelection/0/CandidateIds/1")

abbrev pub ElectionOfRecord : Type 0
ElectionOfRecord = NamesNothing (codes "CVR.ElectionId") (codes "mayor") (codes "/CVR/0/ElectionId")

-- a snapshot of the other record
abbrev pub CurrentSnapshot : Type 0
CurrentSnapshot =
    NamesNothing (codes "CVR.CurrentSnapshotId") (codes "b") (codes "/CVR/0/CurrentSnapshotId")

-- an unknown contest is itself the fault, and the selections under it are not
abbrev pub ContestOfRecord : Type 0
ContestOfRecord = NamesNothing (codes "CVRContest.ContestId") (codes "for-ann")
    (codes "/CVR/0/CVRSnapshot/0/CVRContest/0/ContestId")

-- a selection of the other contest
abbrev pub SelectionOfContest : Type 0
SelectionOfContest =
    NamesNothing (codes "CVRContestSelection.ContestSelectionId") (codes "for-green")
    (codes "/CVR/0/CVRSnapshot/0/CVRContest/0/CVRContestSelection/0/ContestSelectionId")

-- an unknown text in the place of each: all are reported, in the order of the walk
abbrev pub AllUnknown : Type 0
AllUnknown = unnamed (report (λ member text. codes "none")) ≡ Some (
    codes "/CVR/0/BallotStyleUnitId" ∷
    codes "/CVR/0/CVRSnapshot/0/CVRContest/0/ContestId" ∷
    codes "/CVR/0/CreatingDeviceId" ∷
    codes "/CVR/0/CurrentSnapshotId" ∷
    codes "/CVR/0/ElectionId" ∷
    codes "/CVR/0/PartyIds/1" ∷
    codes "/Election/0/Candidate/0/PartyId" ∷
    codes "/Election/0/Contest/0/ContestSelection/0/CandidateIds/1" ∷
    codes "/Election/0/Contest/1/ContestSelection/0/PartyIds/1" ∷
    codes "/Election/0/ElectionScopeId" ∷
    codes "/ReportGeneratingDeviceIds/1" ∷ [])

-- ---- agreement

-- the answer for the report with another text at a member, beside the plain one as its definition
abbrev pub beside_plain : List ℕ → List ℕ → Option ReadFault
beside_plain changed other = first_refusal (frame_in (report plain)) (report (but changed other))

abbrev pub OtherElection : Type 0
OtherElection =
    beside_plain (codes "Election.Name") (codes "spring") ≡ Some (Disagrees (codes "/Election/0"))

abbrev pub OtherUnit : Type 0
OtherUnit = beside_plain (codes "GpUnit.Name") (codes "lake") ≡ Some (Disagrees (codes "/GpUnit/0"))

abbrev pub OtherParty : Type 0
OtherParty = beside_plain (codes "Party.Name") (codes "Blues") ≡ Some (Disagrees (codes "/Party/0"))

-- devices may differ
abbrev pub OtherDevice : Type 0
OtherDevice = beside_plain (codes "ReportingDevice.Model") (codes "M2") ≡ None

-- ---- equal definitions

-- with another text at a member it is the same definition as the plain report
abbrev pub StaysSame : List ℕ → List ℕ → Type 0
StaysSame changed other = IsSame (frame_in (report plain)) (frame_in (report (but changed other)))

abbrev pub SameWithOtherDevice : Type 0
SameWithOtherDevice = StaysSame (codes "ReportingDevice.Model") (codes "M2")

-- records are no part of a definition
abbrev pub SameWithOtherRecord : Type 0
SameWithOtherRecord = StaysSame (codes "CVR.BatchId") (codes "b2")

abbrev pub OtherByElection : Type 0
OtherByElection = ¬ StaysSame (codes "Election.Name") (codes "spring")

abbrev pub OtherByUnit : Type 0
OtherByUnit = ¬ StaysSame (codes "GpUnit.Name") (codes "lake")

abbrev pub OtherByParty : Type 0
OtherByParty = ¬ StaysSame (codes "Party.Name") (codes "Blues")
