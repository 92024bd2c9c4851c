-- Worked examples: facts of a few records, their conflicts and their tally. (This project's own.)
use Rattle.std.specs.Prelude.{◌≡◌, ◌≢◌, ℕ, List, [], ◌∷◌, ◌++◌, codes, Some, None}
use Rattle.std.specs.FinSet.{from_list}
use Rattle.cdf_parts.specs.Places.{Contest}
use Rattle.cvr_fact_types.specs.declared.name.RecordName.{RecordName}
use Rattle.cvr_fact_types.specs.Facts.{Fact, Device, Header, Snapshot}
use Rattle.cvr_tally.specs.declared.key.RowKey.{RowKey}
use Rattle.cvr_tally.specs.declared.row.Row.{Row}
use Rattle.cvr_tally.specs.Examples.{ballot_box, dot, row_at, text_of}
use Rattle.cvr_office.specs.declared.conflict.ConflictName.TheVariants as name
use Rattle.cvr_office.specs.declared.conflict.Conflict.{Conflict}
use Rattle.cvr_office.specs.Names.{conflicts}
use Rattle.cdf_definition.specs.Acceptance.{value_in}
use Rattle.cvr_office.specs.Tallied.{tally}
use Rattle.cvr_office.specs.declared.event.Event.TheVariants.{Import}
use Rattle.cvr_office.specs.declared.event.Outcome.TheVariants.{Accepted}
use Rattle.cvr_office.specs.Reach.{History}
use Rattle.cvr_office.specs.Alike.{HaveSameFiles}

-- ---- conflicts

-- facts under several names, in no order, one of them twice; by bytes the ballot box comes after
-- the dot
abbrev pub mixed : List Fact
mixed =
    Snapshot (codes "s1") ballot_box ballot_box (codes "{}") ∷ Device ballot_box (codes "{}")
    ∷ Snapshot (codes "s1") (codes "u1") (codes "ma") (codes "2") ∷
    Header (codes "s1") (codes "u1") (codes "1")
    ∷ Snapshot (codes "s1") (codes "u1") (codes "m") (codes "1")
    ∷ Device ballot_box (codes "[]") ∷
    Snapshot (codes "s1") ballot_box dot (codes "3") ∷ Header (codes "s1") ballot_box (codes "1")
    ∷ Device (codes "s1") (codes "1") ∷
    Snapshot (codes "s1") (codes "u1") (codes "a") (codes "1")
    ∷ Snapshot (codes "s1") (codes "u1") (codes "ma") (codes "1") ∷ Device dot (codes "2") ∷
    Snapshot (codes "s1") ballot_box dot (codes "4") ∷ Header (codes "s1") (codes "u1") (codes "2")
    ∷ Snapshot (codes "s1") (codes "u1") (codes "m") (codes "2") ∷
    Device dot (codes "1") ∷ Snapshot (codes "s1") ballot_box ballot_box (codes "[]")
    ∷ Device ballot_box (codes "1") ∷ Device dot (codes "2") ∷
    Snapshot (codes "s1") ballot_box dot (codes "5")
    ∷ Snapshot (codes "s1") ballot_box dot (codes "6") ∷ []

abbrev pub one_record : RecordName
one_record = record { device = codes "s1"; unique = codes "u1" }

abbrev pub other_record : RecordName
other_record = record { device = codes "s1"; unique = ballot_box }

abbrev pub expected_conflicts : List Conflict
expected_conflicts =
    record { name = name.Device dot; bodies = 2 }
    ∷ record { name = name.Device ballot_box; bodies = 3 } ∷
    record { name = name.Header one_record; bodies = 2 }
    ∷ record { name = name.Snapshot one_record (codes "m"); bodies = 2 } ∷
    record { name = name.Snapshot one_record (codes "ma"); bodies = 2 }
    ∷ record { name = name.Snapshot other_record dot; bodies = 4 } ∷
    record { name = name.Snapshot other_record ballot_box; bodies = 2 } ∷ []

abbrev pub ConflictsOfMixed : Type 0
ConflictsOfMixed = conflicts (from_list mixed) ≡ expected_conflicts

-- ---- the tally

abbrev pub contests : List Contest
contests = (codes "mayor", codes "ann" ∷ codes "bob" ∷ []) ∷ (ballot_box, dot ∷ [])
    ∷ (codes "q", []) ∷ []

-- a position with these votes, with the text of one more member before its HasIndication
abbrev pub position : List ℕ → List ℕ → List ℕ
position more votes = codes "{\"@type\":\"CVR.SelectionPosition\"," ++ more
    ++ codes "\"HasIndication\":\"yes\",\"NumberVotes\":" ++ votes ++ codes "}"

-- a contest selection with the text of its ContestSelectionId as a member, and this position
abbrev pub selection : List ℕ → List ℕ → List ℕ
selection id its_position = codes "{\"@type\":\"CVR.CVRContestSelection\"," ++ id
    ++ codes "\"SelectionPosition\":[" ++ its_position ++ codes "]}"

abbrev pub choice : List ℕ → List ℕ → List ℕ
choice id votes =
    selection (codes "\"ContestSelectionId\":\"" ++ id ++ codes "\",") (position (codes "") votes)

abbrev pub contest : List ℕ → List ℕ → List ℕ → List ℕ
contest id selections more = codes "{\"@type\":\"CVR.CVRContest\",\"CVRContestSelection\":["
    ++ selections ++ codes "],\"ContestId\":\"" ++ id ++ codes "\"" ++ more ++ codes "}"

abbrev pub snapshot : List ℕ → List ℕ → List ℕ → List ℕ → List ℕ
snapshot id annotations contests kind =
    codes "{\"@id\":\"" ++ id ++ codes "\",\"@type\":\"CVR.CVRSnapshot\"," ++ annotations
    ++ codes "\"CVRContest\":[" ++ contests ++ codes "],\"Type\":\"" ++ kind ++ codes "\"}"

abbrev pub header : List ℕ → List ℕ → List ℕ → List ℕ
header more unit unique =
    codes "{\"@type\":\"CVR.CVR\",\"BallotStyleUnitId\":\"" ++ unit ++ codes "\"," ++ more ++
    codes "\"CreatingDeviceId\":\"s1\",\"ElectionId\":\"e\",\"UniqueId\":\"" ++ unique
    ++ codes "\"}"

-- for mayor: Ann with these votes, Bob with 9; 4 that count and 5 pending under no name; overvotes
-- 1, undervotes 2, write-ins 3; and 10 in the second contest
abbrev pub adjudicated : List ℕ → List ℕ
adjudicated votes =
    snapshot (codes "m") (codes "")
    (contest ballot_box (choice dot (codes "10")) (codes "") ++ codes "," ++
    contest (codes "mayor") (choice (codes "ann") votes ++ codes ","
    ++ choice (codes "bob") (codes "9") ++ codes ","
    ++ selection (codes "") (position (codes "") (codes "4")) ++
    codes "," ++ selection (codes "") (position (codes "\"IsAllocable\":\"unknown\",") (codes "5")))
    (codes ",\"Overvotes\":1,\"Undervotes\":2,\"WriteIns\":3"))
    (codes "modified")

-- a scan, which doesn't count beside it
abbrev pub scanned : List ℕ
scanned = snapshot (codes "aa") (codes "")
    (contest (codes "q") (codes "") (codes ",\"Overvotes\":90")) (codes "original")

-- of the other record: 11 for Ann, and undervotes 12 in the third contest; a dated reading with 91
-- stands below it
abbrev pub other_adjudicated : List ℕ
other_adjudicated =
    snapshot dot (codes "") (contest (codes "mayor") (choice (codes "ann") (codes "11")) (codes "")
    ++ codes "," ++ contest (codes "q") (codes "") (codes ",\"Undervotes\":12"))
    (codes "modified")

abbrev pub other_reading : List ℕ
other_reading =
    snapshot ballot_box (codes "\"Annotation\":[{\"@type\":\"CVR.Annotation\",\"TimeStamp\":\"2024-11-05T20:00:00Z\"}],") (contest (codes "mayor") (choice (codes "bob") (codes "91")) (codes ""))
    (codes "interpreted")

-- of a third record and a fourth one: a scan with these votes for Ann, and the text of one more
-- member
abbrev pub scan_for_ann : List ℕ → List ℕ → List ℕ
scan_for_ann votes more = snapshot (codes "a") (codes "")
    (contest (codes "mayor") (choice (codes "ann") votes) more) (codes "original")

-- two bodies of the first record's header and of its adjudication: p2 and 8 stand. The third record
-- is in its unit, the other one too, in a batch
abbrev pub of_four : List Fact
of_four =
    Snapshot (codes "s1") (codes "u1") (codes "m") (adjudicated (codes "8"))
    ∷ Header (codes "s1") (codes "u1") (header (codes "") (codes "p1") (codes "u1")) ∷
    Snapshot (codes "s1") ballot_box ballot_box other_reading
    ∷ Snapshot (codes "s1") (codes "u1") (codes "aa") scanned ∷
    Header (codes "s1") ballot_box (header (codes "\"BatchId\":\"b1\",") (codes "p2") ballot_box)
    ∷ Snapshot (codes "s1") (codes "u10") (codes "a")
    (scan_for_ann (codes "20") (codes ",\"Overvotes\":30")) ∷
    Snapshot (codes "s1") (codes "u2") (codes "a") (scan_for_ann (codes "40") (codes ""))
    ∷ Header (codes "s1") (codes "u2") (header (codes "") (codes "p1") (codes "u2")) ∷
    Snapshot (codes "s1") (codes "u1") (codes "m") (adjudicated (codes "7"))
    ∷ Header (codes "s1") (codes "u10") (header (codes "") (codes "p2") (codes "u10")) ∷
    Snapshot (codes "s1") ballot_box dot other_adjudicated
    ∷ Header (codes "s1") (codes "u1") (header (codes "") (codes "p2") (codes "u1")) ∷
    Device (codes "s1") (codes "{\"@id\":\"s1\",\"@type\":\"CVR.ReportingDevice\"}") ∷ []

-- outside of batches Ann has 8 and 20 in p2, and overvotes are 1 and 30
abbrev pub rows_of_four : List (RowKey × Row)
rows_of_four =
    row_at 0 (Some (codes "p1")) None (1 ∷ []) (40 ∷ 0 ∷ [])
    ∷ row_at 0 (Some (codes "p2")) None (2 ∷ 31 ∷ 2 ∷ 3 ∷ 5 ∷ 4 ∷ []) (28 ∷ 9 ∷ []) ∷
    row_at 0 (Some (codes "p2")) (Some (codes "b1")) (1 ∷ []) (11 ∷ 0 ∷ [])
    ∷ row_at 1 (Some (codes "p2")) None (1 ∷ []) (10 ∷ []) ∷
    row_at 2 (Some (codes "p2")) (Some (codes "b1")) (1 ∷ 0 ∷ 12 ∷ []) [] ∷ []

abbrev pub TallyOfFour : Type 0
TallyOfFour = tally contests (from_list of_four) ≡ text_of contests rows_of_four

-- ---- the same files

-- the first file into the first office, then the second into the second
abbrev pub one_each : History
one_each = (Import 1 1, Accepted 7) ∷ (Import 0 0, Accepted 5) ∷ []

-- where both have one value, as two spellings of one report do, the same files have reached both
-- offices
abbrev pub SpelledTwice : Type 0
SpelledTwice = (one other : List ℕ) → value_in one ≡ value_in other
    → HaveSameFiles (one ∷ other ∷ []) one_each 0 1

-- where their values differ, different files have
abbrev pub OtherFiles : Type 0
OtherFiles = (one other : List ℕ) → value_in one ≢ value_in other
    → ¬ HaveSameFiles (one ∷ other ∷ []) one_each 0 1
