-- Worked examples: the text of each task over the facts of a few records, that of a tally by rows.
-- (This project's own.)
use Rattle.std.specs.Prelude.{◌≡◌, ℕ, List, [], ◌∷◌, ◌++◌, map, codes, Option, Some, None}
use Rattle.std.specs.FinSet.{from_list}
use Rattle.cdf_definition.specs.Frame.{Frame}
use Rattle.cvr_fact_types.specs.Facts.{Fact, Device, Header, Snapshot}
use Rattle.cvr_tally.specs.declared.key.RowKey.{RowKey}
use Rattle.cvr_tally.specs.declared.row.Row.{Row}
use Rattle.cvr_tally.specs.Examples.{ballot_box, dot, row_at, text_of}
use Rattle.cvr_office.specs.Examples.{contests, position, selection, choice, contest, snapshot}
use Rattle.cvr_words.specs.declared.request.Task.TheVariants.{Currents, Conflicts, Tally}
use Rattle.cvr_run.specs.declared.merge.MergeFault.{MergeFault}
use Rattle.cvr_run.specs.declared.merge.MergeFault.TheVariants.{NotMoment, NoDevice, NoVolume}
use Rattle.cvr_run.specs.Drill.{office_lines}
use Rattle.cvr_run.specs.Merge.{merge_fault, merge_lines}
use Rattle.cvr_run.specs.Outcome.{facts_text}

-- a definition of three contests: for mayor Ann and Bob, the second with the dot, the third with no
-- selection
abbrev pub election : Frame
election = record { elections = []; units = []; parties = []; devices = []; contests = contests }

-- ---- bodies

-- a header with the texts of its unit and its batch as members
abbrev pub header : List ℕ → List ℕ → List ℕ → List ℕ
header places device unique =
    codes "{\"@type\":\"CVR.CVR\"," ++ places ++ codes "\"CreatingDeviceId\":\"" ++ device
    ++ codes "\",\"ElectionId\":\"e\",\"UniqueId\":\"" ++ unique ++ codes "\"}"

abbrev pub in_unit : List ℕ → List ℕ
in_unit unit = codes "\"BallotStyleUnitId\":\"" ++ unit ++ codes "\","

abbrev pub in_batch : List ℕ
in_batch = codes "\"BatchId\":\"b1\","

-- the votes of a selection, and those of one that names none, which count or are pending
abbrev pub unnamed : List ℕ → List ℕ → List ℕ
unnamed unassigned pending = selection (codes "") (position (codes "") unassigned) ++ codes ","
    ++ selection (codes "") (position (codes "\"IsAllocable\":\"unknown\",") pending)

-- overvotes, undervotes and write-ins
abbrev pub lost : List ℕ → List ℕ → List ℕ → List ℕ
lost overvotes undervotes write_ins = codes ",\"Overvotes\":" ++ overvotes
    ++ codes ",\"Undervotes\":" ++ undervotes ++ codes ",\"WriteIns\":" ++ write_ins

-- for mayor, with these votes for Ann and for Bob
abbrev pub mayor : List ℕ → List ℕ → List ℕ → List ℕ → List ℕ
mayor ann bob others more = contest (codes "mayor")
    (choice (codes "ann") ann ++ codes "," ++ choice (codes "bob") bob ++ codes "," ++ others) more

abbrev pub at_time : List ℕ → List ℕ
at_time time =
    codes "\"Annotation\":[{\"@type\":\"CVR.Annotation\",\"TimeStamp\":\"" ++ time ++ codes "\"}],"

-- ---- five records

-- adjudicated under one id with two bodies, of which the greater text has 50 votes for Ann; and a
-- scan, which stands below them
abbrev pub adjudicated : List ℕ → List ℕ
adjudicated ann =
    snapshot (codes "m") (codes "")
    (contest ballot_box (choice dot (codes "10") ++ codes "," ++ unnamed (codes "11") (codes "12"))
    (lost (codes "13") (codes "14") (codes "15")) ++ codes "," ++
    mayor ann (codes "9") (unnamed (codes "4") (codes "5"))
    (lost (codes "1") (codes "35") (codes "3")))
    (codes "modified")

abbrev pub scanned : List ℕ
scanned = snapshot (codes "ms") (at_time (codes "2024-11-06T09:00:00Z"))
    (mayor (codes "90") (codes "91") (unnamed (codes "92") (codes "93")) (codes ""))
    (codes "original")

-- a scan alone
abbrev pub only_scan : List ℕ
only_scan = snapshot (codes "a") (codes "")
    (contest (codes "mayor") (choice (codes "ann") (codes "20")) (codes ",\"Overvotes\":30"))
    (codes "original")

-- a dated reading, and one without a date, whose text is greater
abbrev pub dated_reading : List ℕ
dated_reading =
    snapshot ballot_box (at_time (codes "2024-11-05T20:00:00Z"))
    (contest (codes "q") (unnamed (codes "24") (codes "25"))
    (lost (codes "21") (codes "22") (codes "23")) ++ codes "," ++
    mayor (codes "6") (codes "7") (unnamed (codes "8") (codes "16"))
    (lost (codes "17") (codes "18") (codes "19")))
    (codes "interpreted")

abbrev pub undated_reading : List ℕ
undated_reading = snapshot (codes "z") (codes "")
    (mayor (codes "94") (codes "95") (unnamed (codes "96") (codes "97")) (codes ""))
    (codes "interpreted")

-- adjudicated at 04:30 of the next day in UTC, and at 01:00
abbrev pub at_half_past_eleven : List ℕ
at_half_past_eleven =
    snapshot dot (at_time (codes "2024-11-05T23:30:00-05:00"))
    (mayor (codes "26") (codes "27") (unnamed (codes "28") (codes "29"))
    (lost (codes "32") (codes "33") (codes "34")))
    (codes "modified")

abbrev pub at_one : List ℕ
at_one = snapshot (codes "m9") (at_time (codes "2024-11-06T01:00:00Z"))
    (mayor (codes "98") (codes "99") (unnamed (codes "100") (codes "101")) (codes ""))
    (codes "modified")

-- a scan of a record in a batch and no unit
abbrev pub scan_without_unit : List ℕ
scan_without_unit =
    snapshot (codes "n") (codes "")
    (mayor (codes "37") (codes "36") (unnamed (codes "38") (codes "39"))
    (lost (codes "41") (codes "42") (codes "43")))
    (codes "original")

-- of the first record two bodies of the header, of which that of unit p2 stands; all in no order,
-- one twice
abbrev pub of_five : List Fact
of_five =
    Snapshot (codes "s10") (codes "a") (codes "m9") at_one
    ∷ Header (codes "s1") (codes "u10")
    (header (in_unit (codes "p2")) (codes "s1") (codes "u10")) ∷
    Snapshot (codes "s1") (codes "u1") (codes "m") (adjudicated (codes "50"))
    ∷ Header (codes "s1") ballot_box
    (header (in_unit (codes "p2") ++ in_batch) (codes "s1") ballot_box) ∷
    Device (codes "s10") (codes "{\"@id\":\"s10\",\"@type\":\"CVR.ReportingDevice\"}")
    ∷ Snapshot (codes "s1") ballot_box (codes "z") undated_reading ∷
    Header (codes "s1") (codes "u1") (header (in_unit (codes "p2")) (codes "s1") (codes "u1"))
    ∷ Snapshot (codes "s10") (codes "b") (codes "n") scan_without_unit ∷
    Snapshot (codes "s1") (codes "u1") (codes "ms") scanned
    ∷ Header (codes "s10") (codes "b") (header in_batch (codes "s10") (codes "b")) ∷
    Snapshot (codes "s10") (codes "a") dot at_half_past_eleven
    ∷ Header (codes "s1") (codes "u1") (header (in_unit (codes "p1")) (codes "s1") (codes "u1"))
    ∷
    Snapshot (codes "s1") (codes "u10") (codes "a") only_scan
    ∷ Header (codes "s10") (codes "a") (header (in_unit (codes "p1")) (codes "s10") (codes "a"))
    ∷
    Snapshot (codes "s1") (codes "u1") (codes "m") (adjudicated (codes "40"))
    ∷ Snapshot (codes "s1") ballot_box ballot_box dated_reading ∷
    Snapshot (codes "s1") (codes "u10") (codes "a") only_scan ∷ []

abbrev pub expected_currents : List ℕ
expected_currents =
    codes "\"s1\" \"u1\" \"m\" modified\n" ++
    codes "\"s1\" \"u10\" \"a\" original\n" ++
    codes "\"s1\" \"" ++ ballot_box ++ codes "\" \"" ++ ballot_box ++ codes "\" interpreted\n" ++
    codes "\"s10\" \"a\" \"" ++ dot ++ codes "\" modified\n" ++
    codes "\"s10\" \"b\" \"n\" original\n"

abbrev pub CurrentsOfFive : Type 0
CurrentsOfFive = facts_text election Currents (from_list of_five) ≡ expected_currents

-- in p2 outside of batches Ann has 50 and 20, and overvotes are 1 and 30
abbrev pub rows_of_five : List (RowKey × Row)
rows_of_five =
    row_at 0 None (Some (codes "b1")) (1 ∷ 41 ∷ 42 ∷ 43 ∷ 39 ∷ 38 ∷ []) (37 ∷ 36 ∷ [])
    ∷ row_at 0 (Some (codes "p1")) None (1 ∷ 32 ∷ 33 ∷ 34 ∷ 29 ∷ 28 ∷ []) (26 ∷ 27 ∷ [])
    ∷ row_at 0 (Some (codes "p2")) None (2 ∷ 31 ∷ 35 ∷ 3 ∷ 5 ∷ 4 ∷ []) (70 ∷ 9 ∷ [])
    ∷ row_at 0 (Some (codes "p2")) (Some (codes "b1")) (1 ∷ 17 ∷ 18 ∷ 19 ∷ 16 ∷ 8 ∷ []) (6 ∷ 7 ∷ [])
    ∷ row_at 1 (Some (codes "p2")) None (1 ∷ 13 ∷ 14 ∷ 15 ∷ 12 ∷ 11 ∷ []) (10 ∷ [])
    ∷ row_at 2 (Some (codes "p2")) (Some (codes "b1")) (1 ∷ 21 ∷ 22 ∷ 23 ∷ 25 ∷ 24 ∷ []) [] ∷ []

abbrev pub TallyOfFive : Type 0
TallyOfFive = facts_text election Tally (from_list of_five) ≡ text_of contests rows_of_five

-- ---- conflicts

-- one fact for each byte of the text, which is its body
abbrev pub each : (List ℕ → Fact) → List ℕ → List Fact
each of_body bytes = map (λ byte. of_body (byte ∷ [])) bytes

-- names with one body to twelve, in no order: two records, and three devices
abbrev pub several_bodies : List Fact
several_bodies =
    each (Snapshot (codes "s1") ballot_box ballot_box) (codes "7164253")
    ++ (each (Header (codes "s1") (codes "u1")) (codes "4321") ++
    (each (Snapshot (codes "s1") (codes "u1") dot) (codes "123456")
    ++ (each (Device ballot_box) (codes "312") ++
    (each (Snapshot (codes "s1") (codes "u1") (codes "m")) (codes "1")
    ++ (each (Header (codes "s1") ballot_box) (codes "9") ++
    (each (Snapshot (codes "s1") (codes "u1") (codes "ma")) (codes "cba987654321")
    ++ (each (Device (codes "s10")) (codes "55") ++
    (each (Snapshot (codes "s1") ballot_box (codes "m")) (codes "54123")
    ++ each (Device (codes "s1")) (codes "121")))))))))

abbrev pub expected_conflicts : List ℕ
expected_conflicts =
    codes "device \"s1\" 2\n" ++
    codes "device \"" ++ ballot_box ++ codes "\" 3\n" ++
    codes "\"s1\" \"u1\" header 4\n" ++
    codes "\"s1\" \"u1\" snapshot \"ma\" 12\n" ++
    codes "\"s1\" \"u1\" snapshot \"" ++ dot ++ codes "\" 6\n" ++
    codes "\"s1\" \"" ++ ballot_box ++ codes "\" snapshot \"m\" 5\n" ++
    codes "\"s1\" \"" ++ ballot_box ++ codes "\" snapshot \"" ++ ballot_box ++ codes "\" 7\n" ++
    codes "volumes 12\n"

abbrev pub ConflictsOfTwo : Type 0
ConflictsOfTwo = facts_text election Conflicts (from_list several_bodies) ≡ expected_conflicts

-- one body under each name, one of them twice
abbrev pub one_body_each : List Fact
one_body_each =
    Device (codes "s1") (codes "1") ∷ Header (codes "s1") (codes "u1") (codes "2")
    ∷ Snapshot (codes "s1") (codes "u1") (codes "m") (codes "3") ∷
    Snapshot (codes "s1") (codes "u1") (codes "ma") (codes "4")
    ∷ Header (codes "s1") (codes "u1") (codes "2") ∷ []

abbrev pub NoConflict : Type 0
NoConflict = facts_text election Conflicts (from_list one_body_each) ≡ codes "volumes 1\n"

-- ---- merges of the facts with one body to twelve

-- the election with a desk and a scanner
abbrev pub with_devices : Frame
with_devices = record {
  elections = [];
  units = [];
  parties = [];
  devices = (codes "desk", codes "1") ∷ (codes "s1", codes "2") ∷ [];
  contests = contests;
}

-- under a date and a device, the volume of a number has this fault, or none, and these lines are
-- logged
abbrev pub MergeLogs : List ℕ → List ℕ → ℕ → Option MergeFault → List ℕ → Type 0
MergeLogs date device i fault lines = (merge_fault with_devices date device i
    (from_list several_bodies) ≡ fault) × (merge_lines fault ≡ lines)

abbrev pub at_eight : List ℕ
at_eight = codes "2024-11-06T08:00:00Z"

-- a date without a time is no moment
abbrev pub DateAlone : Type 0
DateAlone = MergeLogs (codes "2024-11-06") (codes "s1") 12 (Some NotMoment) (codes "merge: H1\n")

-- it is reported before a device that isn't listed and a number above the volumes
abbrev pub DateFirst : Type 0
DateFirst = MergeLogs (codes "2024-11-06") (codes "s2") 13 (Some NotMoment) (codes "merge: H1\n")

abbrev pub DeviceAlone : Type 0
DeviceAlone = MergeLogs at_eight (codes "s2") 12 (Some NoDevice) (codes "merge: H2\n")

-- and such a device before such a number
abbrev pub DeviceBeforeNumber : Type 0
DeviceBeforeNumber = MergeLogs at_eight (codes "s2") 13 (Some NoDevice) (codes "merge: H2\n")

-- for a number above the volumes the run reports how many there are
abbrev pub NumberAlone : Type 0
NumberAlone = MergeLogs at_eight (codes "s1") 14 (Some (NoVolume 12)) (codes "merge: V1 12\n")

-- of the last volume nothing
abbrev pub LastVolume : Type 0
LastVolume = MergeLogs at_eight (codes "s1") 12 None []

-- ---- a drill

-- headers with each of these as UniqueId, and bodies under one id of a record that may be among
-- them
abbrev pub heads_and_bodies : List ℕ → List ℕ → List Fact
heads_and_bodies uniques bodies =
    each (λ unique. Header (codes "s1") unique (codes "1")) uniques
    ++ each (Snapshot (codes "s1") (codes "a") (codes "m")) bodies

-- a device, and a snapshot of a record without a header
abbrev pub second_device : Fact
second_device = Device (codes "s2") (codes "1")

abbrev pub without_header : Fact
without_header = Snapshot (codes "s2") (codes "a") (codes "m") (codes "1")

-- the facts of ten offices, the same ones in any order and some twice: of the first, the third and
-- the eighth; of the second and the seventh, with another body; of the sixth and the ninth, which
-- hold none. The fourth has one header less than the first, the fifth two facts more than the
-- second
abbrev pub ten_offices : List (List Fact)
ten_offices =
    heads_and_bodies (codes "lkjihgfedcba") (codes "987654321") ∷
    heads_and_bodies (codes "lkjihgfedcba") (codes "087654321") ∷
    heads_and_bodies (codes "abcdefghijklaf") (codes "1234567899") ∷
    heads_and_bodies (codes "kjihgfedcba") (codes "987654321") ∷
    (second_device ∷ without_header ∷ heads_and_bodies (codes "lkjihgfedcba") (codes "087654321")) ∷
    [] ∷
    heads_and_bodies (codes "abcdefghijkl") (codes "123456780") ∷
    heads_and_bodies (codes "fedcbalkjihg") (codes "543219876") ∷
    [] ∷
    (second_device ∷ []) ∷ []

abbrev pub LinesOfTen : Type 0
LinesOfTen =
    office_lines (map from_list ten_offices)
    ≡ codes "office 1 records 12 facts 21 same 1\n" ++
    codes "office 2 records 12 facts 21 same 2\n" ++
    codes "office 3 records 12 facts 21 same 1\n" ++
    codes "office 4 records 11 facts 20 same 4\n" ++
    codes "office 5 records 13 facts 23 same 5\n" ++
    codes "office 6 records 0 facts 0 same 6\n" ++
    codes "office 7 records 12 facts 21 same 2\n" ++
    codes "office 8 records 12 facts 21 same 1\n" ++
    codes "office 9 records 0 facts 0 same 6\n" ++
    codes "office 10 records 0 facts 1 same 10\n"
