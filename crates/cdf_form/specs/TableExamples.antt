-- Worked examples of the class tables: the rule that each member breaks where it is absent, and
-- where it is a text, a number or an array. (Classes and members: NIST SP 1500-103; what is
-- demanded of them is this project's own.)
use Rattle.std.specs.Prelude.{◌≡◌, ℕ, List, [], ◌∷◌, ◌++◌, map, Bool, false, if◌then◌else◌}
use Rattle.std.specs.Prelude.{option_map, unwrap_or, bytes_eq, codes}
use Rattle.serde_json.specs.Read.{read}
use Rattle.cdf_types.specs.Rule.{number_of}
use Rattle.cdf_form.specs.declared.table.Class.{Class}
use Rattle.cdf_form.specs.declared.table.Class.TheVariants as class
use Rattle.cdf_form.specs.declared.table.Group.{Group}
use Rattle.cdf_form.specs.declared.table.Group.TheVariants as group
use Rattle.cdf_form.specs.declared.table.Key.TheVariants as key
use Rattle.cdf_form.specs.declared.table.Kind.TheVariants.{One}
use Rattle.cdf_form.specs.declared.table.Leaf.TheVariants as leaf
use Rattle.cdf_form.specs.Tables.{table}
use Rattle.cdf_form.specs.Form.{Step, at_member, at_item, Fault, faults}

-- the path goes to the member of this name, or into it
abbrev pub leads_to : List ℕ → List Step → Bool
leads_to name [] = false
leads_to name (at_member n ∷ steps) = bytes_eq name n
leads_to name (at_item i ∷ steps) = false

-- the number of the first rule that is broken there, or 0
abbrev pub number_at : List ℕ → List Fault → ℕ
number_at name [] = 0
number_at name (f ∷ fs) = if leads_to name f.path then number_of f.rule else number_at name fs

-- that of an object of the class, with the text of one more member
abbrev pub number_with : Group → List ℕ → List ℕ → List ℕ → ℕ
number_with g type name more =
    unwrap_or (option_map (λ d. number_at name (faults d (One (leaf.Object g)) key.Free))
    (read (codes "{\"@type\":\"CVR." ++ type ++ codes "\"" ++ more ++ codes "}"))) 0

-- a member's name, and that number where the member is absent, `""`, `-1` and `[""]`
abbrev pub Answer : Type 0
Answer = List ℕ × ℕ × ℕ × ℕ × ℕ

abbrev pub with_value : List ℕ → List ℕ → List ℕ
with_value name value = codes ",\"" ++ name ++ codes "\":" ++ value

abbrev pub answer_of : Group → List ℕ → List ℕ → Answer
answer_of g type name = (
  name,
  number_with g type name [],
  number_with g type name (with_value name (codes "\"\"")),
  number_with g type name (with_value name (codes "-1")),
  number_with g type name (with_value name (codes "[\"\"]")),
)

-- a class has just these members, and these are the answers
abbrev pub HasAnswers : Group → Class → List ℕ → List Answer → Type 0
HasAnswers g c type answers = (map (λ a. answer_of g type a.0) answers ≡ answers)
    × (map (λ e. e.name) (table c) ≡ map (λ a. a.0) answers)

abbrev pub AnswersCastVoteRecordReport : Type 0
AnswersCastVoteRecordReport =
    HasAnswers group.Reports class.CastVoteRecordReport (codes "CastVoteRecordReport") (
    (codes "CVR", 0, 3, 3, 1) ∷
    (codes "Election", 2, 3, 3, 1) ∷
    (codes "GeneratedDate", 2, 11, 3, 3) ∷
    (codes "GpUnit", 2, 3, 3, 1) ∷
    (codes "Notes", 0, 0, 3, 3) ∷
    (codes "OtherReportType", 0, 0, 3, 3) ∷
    (codes "Party", 0, 3, 3, 1) ∷
    (codes "ReportGeneratingDeviceIds", 2, 3, 3, 0) ∷
    (codes "ReportType", 0, 3, 3, 4) ∷
    (codes "ReportingDevice", 2, 3, 3, 1) ∷
    (codes "Version", 2, 4, 3, 3) ∷
    [])

abbrev pub AnswersCvr : Type 0
AnswersCvr = HasAnswers group.Cvrs class.Cvr (codes "CVR") (
    (codes "BallotAuditId", 0, 0, 3, 3) ∷
    (codes "BallotPrePrintedId", 0, 0, 3, 3) ∷
    (codes "BallotSheetId", 0, 0, 3, 3) ∷
    (codes "BallotStyleId", 0, 0, 3, 3) ∷
    (codes "BallotStyleUnitId", 0, 0, 3, 3) ∷
    (codes "BatchId", 0, 0, 3, 3) ∷
    (codes "BatchSequenceId", 0, 3, 0, 3) ∷
    (codes "CVRSnapshot", 2, 3, 3, 1) ∷
    (codes "CreatingDeviceId", 2, 6, 3, 3) ∷
    (codes "CurrentSnapshotId", 2, 0, 3, 3) ∷
    (codes "ElectionId", 2, 0, 3, 3) ∷
    (codes "PartyIds", 0, 3, 3, 0) ∷
    (codes "UniqueId", 2, 6, 3, 3) ∷
    [])

abbrev pub AnswersCvrSnapshot : Type 0
AnswersCvrSnapshot = HasAnswers group.Snapshots class.CvrSnapshot (codes "CVRSnapshot") (
    (codes "@id", 2, 6, 3, 3) ∷
    (codes "Annotation", 0, 3, 3, 1) ∷
    (codes "CVRContest", 0, 3, 3, 1) ∷
    (codes "OtherStatus", 0, 0, 3, 3) ∷
    (codes "Status", 0, 3, 3, 4) ∷
    (codes "Type", 2, 4, 3, 3) ∷
    [])

abbrev pub AnswersAnnotation : Type 0
AnswersAnnotation = HasAnswers group.Annotations class.Annotation (codes "Annotation") (
    (codes "AdjudicatorName", 0, 3, 3, 0) ∷
    (codes "Message", 0, 3, 3, 0) ∷
    (codes "TimeStamp", 0, 11, 3, 3) ∷
    [])

abbrev pub AnswersCvrContest : Type 0
AnswersCvrContest = HasAnswers group.CvrContests class.CvrContest (codes "CVRContest") (
    (codes "CVRContestSelection", 0, 3, 3, 1) ∷
    (codes "ContestId", 2, 0, 3, 3) ∷
    (codes "OtherStatus", 0, 0, 3, 3) ∷
    (codes "Overvotes", 0, 3, 7, 3) ∷
    (codes "Selections", 0, 3, 7, 3) ∷
    (codes "Status", 0, 3, 3, 4) ∷
    (codes "Undervotes", 0, 3, 7, 3) ∷
    (codes "WriteIns", 0, 3, 7, 3) ∷
    [])

abbrev pub AnswersCvrContestSelection : Type 0
AnswersCvrContestSelection =
    HasAnswers group.CvrContestSelections class.CvrContestSelection (codes "CVRContestSelection") (
    (codes "ContestSelectionId", 0, 0, 3, 3) ∷
    (codes "OptionPosition", 0, 3, 0, 3) ∷
    (codes "OtherStatus", 0, 0, 3, 3) ∷
    (codes "Rank", 0, 3, 0, 3) ∷
    (codes "SelectionPosition", 2, 3, 3, 1) ∷
    (codes "Status", 0, 3, 3, 4) ∷
    (codes "TotalFractionalVotes", 0, 10, 10, 10) ∷
    (codes "TotalNumberVotes", 0, 3, 7, 3) ∷
    [])

abbrev pub AnswersSelectionPosition : Type 0
AnswersSelectionPosition =
    HasAnswers group.SelectionPositions class.SelectionPosition (codes "SelectionPosition") (
    (codes "CVRWriteIn", 0, 1, 1, 1) ∷
    (codes "FractionalVotes", 0, 10, 10, 10) ∷
    (codes "HasIndication", 2, 4, 3, 3) ∷
    (codes "IsAllocable", 0, 4, 3, 3) ∷
    (codes "MarkMetricValue", 0, 3, 3, 0) ∷
    (codes "NumberVotes", 2, 3, 7, 3) ∷
    (codes "OtherStatus", 0, 0, 3, 3) ∷
    (codes "Position", 0, 3, 0, 3) ∷
    (codes "Rank", 0, 3, 0, 3) ∷
    (codes "Status", 0, 3, 3, 4) ∷
    [])

abbrev pub AnswersCvrWriteIn : Type 0
AnswersCvrWriteIn = HasAnswers group.WriteIns class.CvrWriteIn (codes "CVRWriteIn") []

abbrev pub AnswersElection : Type 0
AnswersElection = HasAnswers group.Elections class.Election (codes "Election") (
    (codes "@id", 2, 6, 3, 3) ∷
    (codes "Candidate", 0, 3, 3, 1) ∷
    (codes "Contest", 2, 3, 3, 1) ∷
    (codes "ElectionScopeId", 2, 0, 3, 3) ∷
    (codes "Name", 0, 0, 3, 3) ∷
    [])

-- the members of BallotMeasureContest, CandidateContest, Contest, PartyContest, RetentionContest
abbrev pub contest_answers : List Answer
contest_answers =
    (codes "@id", 2, 6, 3, 3) ∷
    (codes "ContestSelection", 0, 3, 3, 1) ∷
    (codes "VoteVariation", 0, 4, 3, 3) ∷
    []

abbrev pub AnswersBallotMeasureContest : Type 0
AnswersBallotMeasureContest = HasAnswers group.Contests class.BallotMeasureContest
    (codes "BallotMeasureContest") contest_answers

abbrev pub AnswersCandidateContest : Type 0
AnswersCandidateContest =
    HasAnswers group.Contests class.CandidateContest (codes "CandidateContest") contest_answers

abbrev pub AnswersContest : Type 0
AnswersContest = HasAnswers group.Contests class.Contest (codes "Contest") contest_answers

abbrev pub AnswersPartyContest : Type 0
AnswersPartyContest =
    HasAnswers group.Contests class.PartyContest (codes "PartyContest") contest_answers

abbrev pub AnswersRetentionContest : Type 0
AnswersRetentionContest =
    HasAnswers group.Contests class.RetentionContest (codes "RetentionContest") contest_answers

-- the members of BallotMeasureSelection, ContestSelection, GpUnit, Party, ReportingDevice
abbrev pub plain_answers : List Answer
plain_answers =
    (codes "@id", 2, 6, 3, 3) ∷
    []

abbrev pub AnswersBallotMeasureSelection : Type 0
AnswersBallotMeasureSelection = HasAnswers group.ContestSelections class.BallotMeasureSelection
    (codes "BallotMeasureSelection") plain_answers

abbrev pub AnswersContestSelection : Type 0
AnswersContestSelection = HasAnswers group.ContestSelections class.ContestSelection
    (codes "ContestSelection") plain_answers

abbrev pub AnswersGpUnit : Type 0
AnswersGpUnit = HasAnswers group.GpUnits class.GpUnit (codes "GpUnit") plain_answers

abbrev pub AnswersParty : Type 0
AnswersParty = HasAnswers group.Parties class.Party (codes "Party") plain_answers

abbrev pub AnswersReportingDevice : Type 0
AnswersReportingDevice =
    HasAnswers group.ReportingDevices class.ReportingDevice (codes "ReportingDevice") plain_answers

abbrev pub AnswersCandidateSelection : Type 0
AnswersCandidateSelection =
    HasAnswers group.ContestSelections class.CandidateSelection (codes "CandidateSelection") (
    (codes "@id", 2, 6, 3, 3) ∷
    (codes "CandidateIds", 0, 3, 3, 0) ∷
    (codes "IsWriteIn", 0, 3, 3, 3) ∷
    [])

abbrev pub AnswersPartySelection : Type 0
AnswersPartySelection =
    HasAnswers group.ContestSelections class.PartySelection (codes "PartySelection") (
    (codes "@id", 2, 6, 3, 3) ∷
    (codes "PartyIds", 0, 3, 3, 0) ∷
    [])

abbrev pub AnswersCandidate : Type 0
AnswersCandidate = HasAnswers group.Candidates class.Candidate (codes "Candidate") (
    (codes "@id", 2, 6, 3, 3) ∷
    (codes "PartyId", 0, 0, 3, 3) ∷
    [])

-- ---- lists and repeats

-- that number for a member with this value
abbrev pub number_of_value : Group → List ℕ → List ℕ → List ℕ → ℕ
number_of_value g type name value = number_with g type name (with_value name value)

-- each list takes a text or texts that stand in it
abbrev pub OwnTexts : Type 0
OwnTexts = (
    number_of_value group.Reports (codes "CastVoteRecordReport") (codes "ReportType")
    (codes "[\"rcv-round\"]") ∷
    number_of_value group.Reports (codes "CastVoteRecordReport") (codes "Version") (codes "\"1.0.0\"") ∷
    number_of_value group.Snapshots (codes "CVRSnapshot") (codes "Status")
    (codes "[\"needs-adjudication\"]") ∷
    number_of_value group.Snapshots (codes "CVRSnapshot") (codes "Type") (codes "\"interpreted\"") ∷
    number_of_value group.CvrContests (codes "CVRContest") (codes "Status") (codes "[\"undervoted\"]") ∷
    number_of_value group.CvrContestSelections (codes "CVRContestSelection") (codes "Status")
    (codes "[\"generated-rules\",\"needs-adjudication\"]") ∷
    number_of_value group.SelectionPositions (codes "SelectionPosition") (codes "HasIndication")
    (codes "\"unknown\"") ∷
    number_of_value group.SelectionPositions (codes "SelectionPosition") (codes "IsAllocable")
    (codes "\"unknown\"") ∷
    number_of_value group.SelectionPositions (codes "SelectionPosition") (codes "Status")
    (codes "[\"adjudicated\",\"generated-rules\"]") ∷
    number_of_value group.Contests (codes "Contest") (codes "VoteVariation") (codes "\"borda\"") ∷ [])
    ≡ 0 ∷ 0 ∷ 0 ∷ 0 ∷ 0 ∷ 0 ∷ 0 ∷ 0 ∷ 0 ∷ 0 ∷ []

-- a snapshot's status is not this one, which a selection's may be
abbrev pub OtherList : Type 0
OtherList = number_of_value group.Snapshots (codes "CVRSnapshot") (codes "Status")
    (codes "[\"generated-rules\"]") ≡ 4

-- an array that has an object twice
abbrev pub twice : List ℕ → List ℕ
twice object = codes "[" ++ object ++ codes "," ++ object ++ codes "]"

-- an object of a class with an id
abbrev pub with_id : List ℕ → List ℕ
with_id type = codes "{\"@id\":\"a\",\"@type\":\"CVR." ++ type ++ codes "\",\"Type\":\"original\"}"

-- no object with an id may come twice in an array, nor a CVRContest; an annotation may
abbrev pub Repeats : Type 0
Repeats = (
    number_of_value group.Reports (codes "CastVoteRecordReport") (codes "GpUnit")
    (twice (with_id (codes "GpUnit"))) ∷
    number_of_value group.Reports (codes "CastVoteRecordReport") (codes "Party")
    (twice (with_id (codes "Party"))) ∷
    number_of_value group.Reports (codes "CastVoteRecordReport") (codes "ReportingDevice")
    (twice (with_id (codes "ReportingDevice"))) ∷
    number_of_value group.Elections (codes "Election") (codes "Candidate")
    (twice (with_id (codes "Candidate"))) ∷
    number_of_value group.Elections (codes "Election") (codes "Contest") (twice (with_id (codes "Contest")))
    ∷
    number_of_value group.Contests (codes "BallotMeasureContest") (codes "ContestSelection")
    (twice (with_id (codes "PartySelection"))) ∷
    number_of_value group.Contests (codes "CandidateContest") (codes "ContestSelection")
    (twice (with_id (codes "PartySelection"))) ∷
    number_of_value group.Contests (codes "Contest") (codes "ContestSelection")
    (twice (with_id (codes "PartySelection"))) ∷
    number_of_value group.Contests (codes "PartyContest") (codes "ContestSelection")
    (twice (with_id (codes "PartySelection"))) ∷
    number_of_value group.Contests (codes "RetentionContest") (codes "ContestSelection")
    (twice (with_id (codes "PartySelection"))) ∷
    number_of_value group.Cvrs (codes "CVR") (codes "CVRSnapshot") (twice (with_id (codes "CVRSnapshot"))) ∷
    number_of_value group.Snapshots (codes "CVRSnapshot") (codes "CVRContest")
    (twice (codes "{\"@type\":\"CVR.CVRContest\",\"ContestId\":\"m\"}")) ∷
    number_of_value group.Snapshots (codes "CVRSnapshot") (codes "Annotation")
    (twice (with_id (codes "Annotation"))) ∷ [])
    ≡ 12 ∷ 12 ∷ 12 ∷ 12 ∷ 12 ∷ 12 ∷ 12 ∷ 12 ∷ 12 ∷ 12 ∷ 12 ∷ 13 ∷ 0 ∷ []
