-- Worked examples: files of one election, and the facts, sums, headers and current snapshots that
-- they give. (This project's own.)
use Rattle.std.specs.Prelude.{◌≡◌, ℕ, pos, List, [], ◌∷◌, ◌++◌, map, Some, None, codes}
use Rattle.std.specs.List.{flat_map}
use Rattle.std.specs.declared.cmp.Ordering.TheVariants.{Less, Equal}
use Rattle.std.specs.FinSet.{empty, from_list, union, len}
use Rattle.cdf_types.specs.declared.snapshot_kind.SnapshotKind.TheVariants.{Interpreted}
use Rattle.cdf_types.specs.declared.report.Report.{Report}
use Rattle.cdf_parts.specs.Places.{Contest}
use Rattle.cdf_definition.specs.Acceptance.{frame_in, report_in}
use Rattle.cdf_definition.specs.Sample.{report, definition_file}
use Rattle.cvr_fact_types.specs.declared.name.RecordName.{RecordName}
use Rattle.cvr_fact_types.specs.declared.sums.VoteSums.{VoteSums}
use Rattle.cvr_fact_types.specs.Columns.{sums_from}
use Rattle.cvr_fact_types.specs.Facts.{Fact, Device, Header, Snapshot, Facts}
use Rattle.cvr_facts.specs.Reports.{facts}
use Rattle.cvr_facts.specs.Choosing.{choice_cmp, current, header}
use Rattle.cvr_facts.specs.Lists.{facts_in, stated_header, stated_list, stated_snapshots}

-- ---- snapshots

-- a position that is marked with one vote
abbrev pub marked : List ℕ
marked = codes "{\"@type\":\"CVR.SelectionPosition\",\"HasIndication\":\"yes\",\"NumberVotes\":1}"

-- a contest selection with the text of its ContestSelectionId, and this position
abbrev pub selection : List ℕ → List ℕ → List ℕ
selection id position = codes "{\"@type\":\"CVR.CVRContestSelection\"," ++ id
    ++ codes "\"SelectionPosition\":[" ++ position ++ codes "]}"

-- the same for the selection of this id
abbrev pub choice : List ℕ → List ℕ → List ℕ
choice id position = selection (codes "\"ContestSelectionId\":\"" ++ id ++ codes "\",") position

-- a contest of this id with these contest selections, and the text of one more member at its end
abbrev pub contest : List ℕ → List ℕ → List ℕ → List ℕ
contest id selections more =
    codes "{\"@type\":\"CVR.CVRContest\",\"CVRContestSelection\":[" ++ selections
    ++ codes "],\"ContestId\":\"" ++ id ++ codes "\"" ++ more ++ codes "}"

-- a snapshot with the text of its annotations, these contests and this Type
abbrev pub snapshot_with : List ℕ → List ℕ → List ℕ → List ℕ → List ℕ
snapshot_with id annotations contests kind =
    codes "{\"@id\":\"" ++ id ++ codes "\",\"@type\":\"CVR.CVRSnapshot\"," ++ annotations
    ++ codes "\"CVRContest\":[" ++ contests ++ codes "],\"Type\":\"" ++ kind ++ codes "\"}"

-- one with a mark for a selection as mayor
abbrev pub snapshot : List ℕ → List ℕ → List ℕ → List ℕ → List ℕ
snapshot id annotations kind chosen =
    snapshot_with id annotations (contest (codes "mayor") (choice chosen marked) (codes "")) kind

-- the text of an annotation of this time
abbrev pub at_time : List ℕ → List ℕ
at_time time =
    codes "\"Annotation\":[{\"@type\":\"CVR.Annotation\",\"TimeStamp\":\"" ++ time ++ codes "\"}],"

-- the scanner's, for Ann
abbrev pub scanned : List ℕ
scanned = snapshot (codes "a") (codes "") (codes "original") (codes "ann")

-- a later reading of the scan, for Ann
abbrev pub reading : List ℕ
reading = snapshot (codes "i") (codes "") (codes "interpreted") (codes "ann")

-- adjudicated for Bob, and under the same id for a write-in
abbrev pub for_bob : List ℕ
for_bob = snapshot (codes "m") (codes "") (codes "modified") (codes "bob")

abbrev pub for_write_in : List ℕ
for_write_in = snapshot (codes "m") (codes "") (codes "modified") (codes "wi")

-- adjudicated at 04:30 of the next day in UTC, at 01:00, at no time, and at 04:30 in another
-- spelling
abbrev pub at_half_past_eleven : List ℕ
at_half_past_eleven = snapshot (codes "m1") (at_time (codes "2024-11-05T23:30:00-05:00"))
    (codes "modified") (codes "ann")

abbrev pub at_one : List ℕ
at_one =
    snapshot (codes "m2") (at_time (codes "2024-11-06T01:00:00Z")) (codes "modified") (codes "bob")

abbrev pub at_no_time : List ℕ
at_no_time = snapshot (codes "m9") (codes "") (codes "modified") (codes "wi")

abbrev pub at_half_past_four : List ℕ
at_half_past_four =
    snapshot (codes "m4") (at_time (codes "2024-11-06T04:30:00Z")) (codes "modified") (codes "bob")

-- ---- every kind of vote

-- a position with the texts of HasIndication, of IsAllocable as a member, and of NumberVotes
abbrev pub position : List ℕ → List ℕ → List ℕ → List ℕ
position indication allocable votes =
    codes "{\"@type\":\"CVR.SelectionPosition\",\"HasIndication\":\"" ++ indication ++ codes "\","
    ++ allocable ++ codes "\"NumberVotes\":" ++ votes ++ codes "}"

-- every kind of vote: for mayor one that is pending, one that counts, one that isn't marked and one
-- that names no selection; for the measure one that is allowed and one that isn't
abbrev pub mayor : List ℕ
mayor =
    contest (codes "mayor") (choice (codes "wi")
    (position (codes "yes") (codes "\"IsAllocable\":\"unknown\",") (codes "1")) ++ codes "," ++
    choice (codes "ann") marked ++ codes ","
    ++ choice (codes "bob") (position (codes "no") (codes "") (codes "1")) ++ codes "," ++
    selection (codes "") marked) (codes ",\"WriteIns\":1")

abbrev pub measure : List ℕ
measure =
    contest (codes "q1") (choice (codes "yes")
    (position (codes "no") (codes "\"IsAllocable\":\"yes\",") (codes "2")) ++ codes "," ++
    choice (codes "no") (position (codes "yes") (codes "\"IsAllocable\":\"no\",") (codes "1")))
    (codes "")

abbrev pub every_kind : List ℕ
every_kind =
    snapshot_with (codes "x") (codes "") (mayor ++ codes "," ++ measure) (codes "interpreted")

-- ---- numbers that all differ

-- one marked position, and one that is pending, with these votes
abbrev pub marked_with : List ℕ → List ℕ
marked_with votes = position (codes "yes") (codes "") votes

abbrev pub pending_with : List ℕ → List ℕ
pending_with votes = position (codes "yes") (codes "\"IsAllocable\":\"unknown\",") votes

-- for mayor: overvotes 1, undervotes 2, write-ins 3; 4 pending and 5 that count under no name; Ann
-- twice, with 7 and 9 that count and 64 pending; Bob with 10, the write-in with 11
abbrev pub numbered_mayor : List ℕ
numbered_mayor =
    contest (codes "mayor") (selection (codes "")
    (pending_with (codes "4") ++ codes "," ++ marked_with (codes "5")) ++ codes "," ++
    choice (codes "ann") (marked_with (codes "7")) ++ codes ","
    ++ choice (codes "bob") (marked_with (codes "10")) ++ codes "," ++
    choice (codes "ann") (pending_with (codes "64") ++ codes "," ++ marked_with (codes "9"))
    ++ codes "," ++ choice (codes "wi") (marked_with (codes "11")))
    (codes ",\"Overvotes\":1,\"Undervotes\":2,\"WriteIns\":3")

-- for the measure: each IsAllocable (absent, no, unknown, yes) with each HasIndication (no,
-- unknown, yes), with votes that are powers of 2, so that a sum shows which of them are in it; and
-- a selection with 6
abbrev pub three_with : List ℕ → List ℕ → List ℕ → List ℕ → List ℕ
three_with allocable first second third =
    position (codes "no") allocable first ++ codes ","
    ++ position (codes "unknown") allocable second ++ codes ","
    ++ position (codes "yes") allocable third

abbrev pub twelve_positions : List ℕ
twelve_positions =
    three_with (codes "") (codes "1") (codes "2") (codes "4") ++ codes "," ++
    three_with (codes "\"IsAllocable\":\"no\",") (codes "8") (codes "16") (codes "32") ++ codes ","
    ++
    three_with (codes "\"IsAllocable\":\"unknown\",") (codes "64") (codes "128") (codes "256")
    ++ codes "," ++
    three_with (codes "\"IsAllocable\":\"yes\",") (codes "512") (codes "1024") (codes "2048")

abbrev pub numbered_measure : List ℕ
numbered_measure =
    contest (codes "q1") (choice (codes "no") (marked_with (codes "6")) ++ codes ","
    ++ choice (codes "yes") twelve_positions) (codes "")

-- three annotations that differ below a second, of which the one in the middle is the latest
abbrev pub three_times : List ℕ
three_times =
    codes "\"Annotation\":[{\"@type\":\"CVR.Annotation\",\"TimeStamp\":\"2024-11-05T20:00:00.25Z\"}," ++
    codes "{\"@type\":\"CVR.Annotation\",\"TimeStamp\":\"2024-11-05T21:00:00.75+01:00\"}," ++
    codes "{\"@type\":\"CVR.Annotation\",\"TimeStamp\":\"2024-11-05T20:00:00.5Z\"}],"

-- a dated reading, with the measure before the election's first contest
abbrev pub numbered : List ℕ
numbered = snapshot_with (codes "n") three_times (numbered_measure ++ codes "," ++ numbered_mayor)
    (codes "interpreted")

-- ---- files

-- a record of a unit with one snapshot, whose id is given
abbrev pub cvr : List ℕ → List ℕ → List ℕ → List ℕ
cvr unit id its_snapshot =
    codes "{\"@type\":\"CVR.CVR\",\"BallotStyleUnitId\":\"" ++ unit ++ codes "\",\"CVRSnapshot\":["
    ++ its_snapshot ++
    codes "],\"CreatingDeviceId\":\"s1\",\"CurrentSnapshotId\":\"" ++ id
    ++ codes "\",\"ElectionId\":\"e\",\"UniqueId\":\"u1\"}"

-- a file of one record
abbrev pub file : List ℕ → List ℕ → List ℕ
file id its_snapshot = report (cvr (codes "p1") id its_snapshot) (codes "")

-- a file of two records of one name
abbrev pub two_cvrs_file : List ℕ
two_cvrs_file = report (cvr (codes "p1") (codes "m") for_bob ++ codes ","
    ++ cvr (codes "p1") (codes "m") for_write_in) (codes "")

-- the scanner's file, and the same value in another spelling: spaces, members in reverse order,
-- escapes
abbrev pub scan_file : List ℕ
scan_file = file (codes "a") scanned

abbrev pub spaced_file : List ℕ
spaced_file = report (
    codes "{\"UniqueId\": \"\\u0075\\u0031\",\"ElectionId\": \"e\",\"CurrentSnapshotId\": \"a\",\"CreatingDeviceId\": \"s1\",\"CVRSnapshot\": [" ++
    codes "{\"@id\": \"a\",\"@type\": \"CVR.CVRSnapshot\",\"CVRContest\": [{\"@type\": \"CVR.CVRContest\",\"CVRContestSelection\": [" ++
    codes "{\"@type\": \"CVR.CVRContestSelection\",\"ContestSelectionId\": \"ann\",\"SelectionPosition\": [" ++
    codes "{\"@type\": \"CVR.SelectionPosition\",\"HasIndication\": \"yes\",\"NumberVotes\": 1}]}],\"ContestId\": \"mayor\"}],\"Type\": \"original\"}]," ++
    codes "\"BallotStyleUnitId\": \"p1\",\"@type\": \"CVR.CVR\"}") (codes "")

abbrev pub every_kind_file : List ℕ
every_kind_file = file (codes "x") every_kind

abbrev pub numbered_file : List ℕ
numbered_file = file (codes "n") numbered

-- the same scan in another unit
abbrev pub moved_file : List ℕ
moved_file = report (cvr (codes "p2") (codes "a") scanned) (codes "")

-- ---- what they give

abbrev pub the_record : RecordName
the_record = record { device = codes "s1"; unique = codes "u1" }

-- the text of a device
abbrev pub device_body : List ℕ → List ℕ
device_body id = codes "{\"@id\":\"" ++ id ++ codes "\",\"@type\":\"CVR.ReportingDevice\"}"

-- the text of the record's header in a unit
abbrev pub header_text : List ℕ → List ℕ
header_text unit =
    codes "{\"@type\":\"CVR.CVR\",\"BallotStyleUnitId\":\"" ++ unit
    ++ codes "\",\"CreatingDeviceId\":\"s1\",\"ElectionId\":\"e\",\"UniqueId\":\"u1\"}"

-- the facts of the file of every kind of vote
abbrev pub every_kind_facts : List Fact
every_kind_facts =
    Device (codes "desk") (device_body (codes "desk"))
    ∷ Device (codes "s1") (device_body (codes "s1"))
    ∷ Device (codes "s2") (device_body (codes "s2")) ∷
    Header (codes "s1") (codes "u1") (header_text (codes "p1"))
    ∷ Snapshot (codes "s1") (codes "u1") (codes "x") every_kind ∷ []

-- the election's contests
abbrev pub contests : List Contest
contests = (frame_in definition_file).contests

abbrev pub every_kind_report : Report
every_kind_report = report_in contests every_kind_file

abbrev pub mayor_sums : VoteSums
mayor_sums = sums_from 0 (0 ∷ 0 ∷ 1 ∷ 1 ∷ 1 ∷ []) (1 ∷ 0 ∷ 0 ∷ [])

abbrev pub measure_sums : VoteSums
measure_sums = sums_from 1 [] (2 ∷ 0 ∷ [])

abbrev pub numbered_report : Report
numbered_report = report_in contests numbered_file

-- Ann has 7 and 9
abbrev pub numbered_mayor_sums : VoteSums
numbered_mayor_sums = sums_from 0 (1 ∷ 2 ∷ 3 ∷ 68 ∷ 5 ∷ []) (16 ∷ 10 ∷ 11 ∷ [])

-- 4, 512, 1024 and 2048 count; 256 is pending
abbrev pub numbered_measure_sums : VoteSums
numbered_measure_sums = sums_from 1 (0 ∷ 0 ∷ 0 ∷ 256 ∷ 0 ∷ []) (3588 ∷ 6 ∷ [])

-- ---- the answers

abbrev pub FactsOfFile : Type 0
FactsOfFile = facts every_kind_file ≡ from_list every_kind_facts

-- the typed report says the same, in the same order
abbrev pub FactsStatedOfReport : Type 0
FactsStatedOfReport = facts_in (stated_list contests every_kind_report) ≡ every_kind_facts

-- the header with its unit and without a batch
abbrev pub HeaderOfReport : Type 0
HeaderOfReport = map stated_header every_kind_report.cvrs
    ≡ record {
      key = the_record;
      unit = Some (codes "p1");
      batch = None;
      body = header_text (codes "p1");
    } ∷ []

-- the snapshot with its sums in order of contest
abbrev pub SnapshotOfReport : Type 0
SnapshotOfReport =
    flat_map (stated_snapshots contests) every_kind_report.cvrs
    ≡ record {
      key = the_record;
      id = codes "x";
      kind = Interpreted;
      moment = None;
      votes = mayor_sums ∷ measure_sums ∷ [];
      body = every_kind;
    } ∷ []

-- each number in its place, and the latest instant: 20,032 days, 20 hours and three quarters of a
-- second after 1970-01-01T00:00:00Z
abbrev pub NumbersOfReport : Type 0
NumbersOfReport =
    flat_map (stated_snapshots contests) numbered_report.cvrs
    ≡ record {
      key = the_record;
      id = codes "n";
      kind = Interpreted;
      moment = Some (pos 1_730_836_800_750_000_000);
      votes = numbered_mayor_sums ∷ numbered_measure_sums ∷ [];
      body = numbered;
    } ∷ []

-- three devices, a header that stands twice, and two snapshots
abbrev pub FactsOfTwoCvrs : Type 0
FactsOfTwoCvrs = len (facts two_cvrs_file) ≡ 6

abbrev pub OtherSpelling : Type 0
OtherSpelling = facts spaced_file ≡ facts scan_file

-- an earlier instant is before a later one, none before all, and a reading before what was
-- adjudicated
abbrev pub OrderOfChoosing : Type 0
OrderOfChoosing =
    (choice_cmp at_one at_half_past_eleven ≡ Less) × (choice_cmp at_no_time at_one ≡ Less)
    × (choice_cmp reading at_no_time ≡ Less)
    × (choice_cmp at_one at_one ≡ Equal)

-- the facts of several files
abbrev pub facts_of_files : List (List ℕ) → Facts
facts_of_files [] = empty
facts_of_files (one ∷ others) = union (facts one) (facts_of_files others)

abbrev pub instant_files : List (List ℕ)
instant_files = file (codes "m1") at_half_past_eleven ∷ file (codes "m2") at_one
    ∷ file (codes "m9") at_no_time ∷ []

-- the latest instant is current
abbrev pub Instants : Type 0
Instants = current (facts_of_files instant_files) the_record ≡ Some at_half_past_eleven

-- of two of one instant it is the greater text
abbrev pub same_instant_files : List (List ℕ)
same_instant_files = file (codes "m4") at_half_past_four ∷ instant_files

abbrev pub SameInstant : Type 0
SameInstant = current (facts_of_files same_instant_files) the_record ≡ Some at_half_past_four

-- what was adjudicated is current, and adds one fact to the scan's
abbrev pub adjudicated_files : List (List ℕ)
adjudicated_files = scan_file ∷ file (codes "m") for_bob ∷ []

abbrev pub Adjudicated : Type 0
Adjudicated = (current (facts_of_files adjudicated_files) the_record ≡ Some for_bob)
    × (len (facts_of_files adjudicated_files) ≡ 6)

-- what was adjudicated is current without a time, beside a reading that has one
abbrev pub dated_files : List (List ℕ)
dated_files = file (codes "m") for_bob ∷ numbered_file ∷ []

abbrev pub DatedReading : Type 0
DatedReading = current (facts_of_files dated_files) the_record ≡ Some for_bob

-- a file's own CurrentSnapshotId makes no snapshot current
abbrev pub reading_files : List (List ℕ)
reading_files = file (codes "i") reading ∷ adjudicated_files

abbrev pub FileCallsAnotherCurrent : Type 0
FileCallsAnotherCurrent = current (facts_of_files reading_files) the_record ≡ Some for_bob

-- of two bodies under one id both are held, and the greater text is current
abbrev pub two_bodies_files : List (List ℕ)
two_bodies_files = file (codes "m") for_write_in ∷ adjudicated_files

abbrev pub OneIdTwoBodies : Type 0
OneIdTwoBodies = (current (facts_of_files two_bodies_files) the_record ≡ Some for_write_in)
    × (len (facts_of_files two_bodies_files) ≡ 7)

-- the header that stands is the greater text
abbrev pub moved_files : List (List ℕ)
moved_files = scan_file ∷ moved_file ∷ []

abbrev pub UnitMoves : Type 0
UnitMoves = (header (facts_of_files moved_files) the_record ≡ Some (header_text (codes "p2")))
    × (len (facts_of_files moved_files) ≡ 6)
