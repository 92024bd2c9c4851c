-- Worked examples of the form: a small report, and all faults of reports that differ from it in a
-- place. (Classes and members: NIST SP 1500-103; what is demanded of them is this project's own.)
use Rattle.std.specs.Prelude.{◌≡◌, ℕ, ◌<◌, ◌↔◌, List, [], ◌∷◌, ◌++◌, map, Option, Some, option_map}
use Rattle.std.specs.Prelude.{unwrap_or, bytes_eq, find, codes}
use Rattle.serde_json.specs.Data.{array, Items}
use Rattle.serde_json.specs.Events.{items_len}
use Rattle.serde_json.specs.Read.{read}
use Rattle.cdf_types.specs.Rule.{number_of}
use Rattle.cdf_types.specs.declared.rule.Rule.TheVariants as rule
use Rattle.cdf_form.specs.declared.table.Class.{Class}
use Rattle.cdf_form.specs.declared.table.Class.TheVariants as class
use Rattle.cdf_form.specs.declared.table.Key.TheVariants as key
use Rattle.cdf_form.specs.declared.table.Kind.{Kind}
use Rattle.cdf_form.specs.declared.table.Kind.TheVariants.{One}
use Rattle.cdf_form.specs.declared.table.Leaf.TheVariants as leaf
use Rattle.cdf_form.specs.Tables.{table}
use Rattle.cdf_form.specs.Form.{Fault, here, first, faults}
use Rattle.cdf_form.specs.Path.{path_text}
use Rattle.cdf_form.specs.Reading.{document_faults}

-- ---- what is reported

-- a fault's path, and the number of its rule
abbrev pub path_and_number : Fault → List ℕ × ℕ
path_and_number f = (path_text f.path, number_of f.rule)

-- all faults of a text's value
abbrev pub all_faults : List ℕ → Option (List (List ℕ × ℕ))
all_faults text = option_map (λ d. map path_and_number (document_faults d)) (read text)

-- the text's value has one fault: at this path, of the rule with this number
abbrev pub HasOneFault : List ℕ → List ℕ → ℕ → Type 0
HasOneFault text path number = all_faults text ≡ Some ((path, number) ∷ [])

-- it has no fault
abbrev pub HasNoFault : List ℕ → Type 0
HasNoFault text = all_faults text ≡ Some []

-- ---- the report's parts

-- an election without contests
abbrev pub election : List ℕ
election =
    codes "{\"@id\":\"e\",\"@type\":\"CVR.Election\",\"Contest\":[],\"ElectionScopeId\":\"p1\"}"

-- a precinct
abbrev pub unit : List ℕ
unit = codes "{\"@id\":\"p1\",\"@type\":\"CVR.GpUnit\"}"

-- the date of the report
abbrev pub date : List ℕ
date = codes "2024-11-05T20:00:00Z"

-- a report with the text of some members before the others, and these elections, this date and
-- these units
abbrev pub report_of : List ℕ → List ℕ → List ℕ → List ℕ → List ℕ
report_of more elections its_date units =
    codes "{\"@type\":\"CVR.CastVoteRecordReport\"," ++ more ++ codes "\"Election\":[" ++ elections
    ++ codes "],\"GeneratedDate\":\"" ++ its_date ++
    codes "\",\"GpUnit\":[" ++ units ++ codes
    "],\"ReportGeneratingDeviceIds\":[],\"ReportingDevice\":[],\"Version\":\"1.0.0\"}"

-- one that differs only in its members at the front, its elections, its date or its units
abbrev pub with_more : List ℕ → List ℕ
with_more more = report_of more election date unit

abbrev pub with_elections : List ℕ → List ℕ
with_elections elections = report_of [] elections date unit

abbrev pub with_date : List ℕ → List ℕ
with_date its_date = report_of [] election its_date unit

abbrev pub with_units : List ℕ → List ℕ
with_units units = report_of [] election date units

-- one with a cast vote record, of whose snapshot these are the contests
abbrev pub with_contests : List ℕ → List ℕ
with_contests contests =
    with_more (codes "\"CVR\":[{\"@type\":\"CVR.CVR\",\"CVRSnapshot\":[{\"@id\":\"a\",\"@type\":\"CVR.CVRSnapshot\",\"CVRContest\":[" ++ contests ++
    codes "],\"Type\":\"original\"}],\"CreatingDeviceId\":\"s1\",\"CurrentSnapshotId\":\"a\",\"ElectionId\":\"e\",\"UniqueId\":\"u1\"}],")

-- a contest with the text of more members at its end
abbrev pub contest : List ℕ → List ℕ
contest more = codes "{\"@type\":\"CVR.CVRContest\",\"ContestId\":\"mayor\"" ++ more ++ codes "}"

-- the path of the first contest
abbrev pub contest_path : List ℕ
contest_path = codes "/CVR/0/CVRSnapshot/0/CVRContest/0/"

-- ---- reports without a fault

abbrev pub SmallReport : Type 0
SmallReport = HasNoFault (with_units unit)

abbrev pub OneContest : Type 0
OneContest = HasNoFault (with_contests (contest []))

-- members that no table lists may hold anything but a number that isn't whole
abbrev pub UnlistedMember : Type 0
UnlistedMember = HasNoFault (with_more (codes "\"Extra\":{\"@type\":[null,-5]},"))

-- an offset in place of `Z`
abbrev pub OtherOffset : Type 0
OtherOffset = HasNoFault (with_date (codes "2024-11-05T15:00:00-05:00"))

-- the greatest count
abbrev pub GreatestCount : Type 0
GreatestCount = HasNoFault (with_contests (contest (codes ",\"Overvotes\":4294967295")))

-- one id in two arrays
abbrev pub IdOfTwoClasses : Type 0
IdOfTwoClasses =
    HasNoFault (with_more (codes "\"Party\":[{\"@id\":\"p1\",\"@type\":\"CVR.Party\"}],"))

-- ---- rules 1, 2 and 5: objects

abbrev pub NotObject : Type 0
NotObject = HasOneFault (with_units (codes "[]")) (codes "/GpUnit/0") 1

abbrev pub MissingMember : Type 0
MissingMember =
    HasOneFault (with_units (codes "{\"@type\":\"CVR.GpUnit\"}")) (codes "/GpUnit/0/@id") 2

abbrev pub MissingClass : Type 0
MissingClass = HasOneFault (with_units (codes "{\"@id\":\"p1\"}")) (codes "/GpUnit/0/@type") 2

-- where the class is wrong, the members aren't walked
abbrev pub WrongClass : Type 0
WrongClass =
    HasOneFault (with_units (codes "{\"@type\":\"CVR.Party\"}")) (codes "/GpUnit/0/@type") 5

-- ---- rules 3, 4, 6 and 11: texts

-- null is a value of another kind, and doesn't count as absent
abbrev pub WrongKind : Type 0
WrongKind = HasOneFault (with_units (codes "{\"@id\":null,\"@type\":\"CVR.GpUnit\"}"))
    (codes "/GpUnit/0/@id") 3

abbrev pub NotListed : Type 0
NotListed = HasOneFault (with_more (codes "\"ReportType\":[\"other\",\"Other\"],"))
    (codes "/ReportType/1") 4

abbrev pub EmptyText : Type 0
EmptyText = HasOneFault (with_units (codes "{\"@id\":\"\",\"@type\":\"CVR.GpUnit\"}"))
    (codes "/GpUnit/0/@id") 6

-- a date without a time, and an instant with the name of a zone
abbrev pub NotMoment : Type 0
NotMoment = HasOneFault (with_date (codes "2024-11-05")) (codes "/GeneratedDate") 11

abbrev pub NamedZone : Type 0
NamedZone = HasOneFault (with_date (codes "2024-11-05T20:00:00Z[UTC]")) (codes "/GeneratedDate") 11

-- ---- rules 7, 10 and 14: numbers

abbrev pub CountTooGreat : Type 0
CountTooGreat = HasOneFault (with_contests (contest (codes ",\"Overvotes\":4294967296")))
    (contest_path ++ codes "Overvotes") 7

abbrev pub CountBelowZero : Type 0
CountBelowZero = HasOneFault (with_contests (contest (codes ",\"Undervotes\":-1")))
    (contest_path ++ codes "Undervotes") 7

-- fractional votes, whatever they are
abbrev pub Fractional : Type 0
Fractional =
    HasOneFault (with_contests (contest (codes ",\"CVRContestSelection\":[{\"@type\":\"CVR.CVRContestSelection\",\"SelectionPosition\":[" ++
    codes "{\"@type\":\"CVR.SelectionPosition\",\"HasIndication\":\"no\",\"NumberVotes\":0}],\"TotalFractionalVotes\":\"1/2\"}]")))
    (contest_path ++ codes "CVRContestSelection/0/TotalFractionalVotes") 10

-- numbers under an unlisted name, the second zero with a sign
abbrev pub NotWhole : Type 0
NotWhole = HasOneFault (with_more (codes "\"Extra\":[1.0],")) (codes "/Extra/0") 14

abbrev pub NegativeZero : Type 0
NegativeZero = HasOneFault (with_more (codes "\"Extra\":-0,")) (codes "/Extra") 14

-- ---- rules 8 and 9: arrays

abbrev pub TooFew : Type 0
TooFew = HasOneFault (with_elections []) (codes "/Election") 8

abbrev pub TooMany : Type 0
TooMany = HasOneFault (with_elections (election ++ codes "," ++ election)) (codes "/Election") 9

-- the kind of a member of a class
abbrev pub kind_at : Class → List ℕ → Kind
kind_at c name = unwrap_or (option_map (λ e. e.kind) (find (λ e. bytes_eq name e.name) (table c)))
    (One leaf.Fractional)

-- rule 8 is the first fault of an array under the name exactly where it has fewer items than this
abbrev pub HasAtLeast : Class → List ℕ → ℕ → Type 0
HasAtLeast c name least = (ds : Items) → first (faults (array ds) (kind_at c name) key.Free)
    ≡ Some (here rule.TooFew) ↔ (items_len ds < least)

-- rule 9 is the first there exactly where it has more
abbrev pub HasAtMost : Class → List ℕ → ℕ → Type 0
HasAtMost c name most = (ds : Items) → first (faults (array ds) (kind_at c name) key.Free)
    ≡ Some (here rule.TooMany) ↔ (most < items_len ds)

abbrev pub OneElection : Type 0
OneElection = HasAtLeast class.CastVoteRecordReport (codes "Election") 1
    × HasAtMost class.CastVoteRecordReport (codes "Election") 1

abbrev pub SomeSnapshot : Type 0
SomeSnapshot = HasAtLeast class.Cvr (codes "CVRSnapshot") 1

abbrev pub MostPositions : Type 0
MostPositions =
    HasAtLeast class.CvrContestSelection (codes "SelectionPosition") 1
    × HasAtMost class.CvrContestSelection (codes "SelectionPosition") 64

abbrev pub MostContestSelections : Type 0
MostContestSelections = HasAtMost class.CvrContest (codes "CVRContestSelection") 65_536

-- ---- rules 12 and 13: repeats

abbrev pub RepeatedId : Type 0
RepeatedId = HasOneFault (with_units (unit ++ codes "," ++ unit)) (codes "/GpUnit/1/@id") 12

abbrev pub RepeatedContest : Type 0
RepeatedContest = HasOneFault (with_contests (contest [] ++ codes "," ++ contest []))
    (codes "/CVR/0/CVRSnapshot/0/CVRContest/1/ContestId") 13
