-- A worked example: facts in two parts without a record in common, their rows, the rows of both,
-- and what their columns come to. (This project's own.)
use Rattle.std.specs.Prelude.{◌≡◌, ℕ, List, [], ◌∷◌, ◌++◌, map, codes, Some, None}
use Rattle.std.specs.FinSet.{from_list, union}
use Rattle.cvr_fact_types.specs.Columns.{Ballots, Overvotes, Undervotes, WriteIns, Pending}
use Rattle.cvr_fact_types.specs.Columns.{Unassigned, VotesFor}
use Rattle.cvr_fact_types.specs.Facts.{Fact, Device, Header, Snapshot, Facts}
use Rattle.cvr_tally.specs.Examples.{ballot_box, dot}
use Rattle.cvr_tally.specs.declared.key.RowKey.{RowKey}
use Rattle.cvr_tally.specs.declared.row.Row.{Row}
use Rattle.cvr_tally.specs.Rows.{row_from}
use Rattle.cvr_office.specs.Tallied.{row, rows}
use Rattle.cvr_office.specs.Counting.{total_of}
use Rattle.cvr_office.specs.Examples.{contests, position, selection, choice, contest, snapshot}
use Rattle.cvr_office.specs.Examples.{header, adjudicated, other_adjudicated, scan_for_ann}
use Rattle.cvr_office.specs.Parts.{option_sum}

-- ---- facts

-- a device that is in both parts
abbrev pub device : Fact
device = Device (codes "s1") (codes "{\"@id\":\"s1\",\"@type\":\"CVR.ReportingDevice\"}")

-- a record in p2, for mayor with Ann 7, Bob 9, 4 under no name, 5 pending, overvotes 1, undervotes
-- 2, write-ins 3; and one in p1, with 40 for Ann
abbrev pub first_part : List Fact
first_part =
    Header (codes "s1") (codes "u1") (header (codes "") (codes "p2") (codes "u1"))
    ∷ Snapshot (codes "s1") (codes "u1") (codes "m") (adjudicated (codes "7")) ∷
    Header (codes "s1") (codes "u2") (header (codes "") (codes "p1") (codes "u2"))
    ∷ Snapshot (codes "s1") (codes "u2") (codes "a") (scan_for_ann (codes "40") (codes "")) ∷
    device ∷ []

-- for mayor: Ann 80, Bob 100, 50 under no name, 60 pending, overvotes 20, undervotes 30, write-ins
-- 45
abbrev pub scan_of_all : List ℕ
scan_of_all =
    snapshot (codes "a") (codes "")
    (contest (codes "mayor") (choice (codes "ann") (codes "80") ++ codes ","
    ++ choice (codes "bob") (codes "100") ++ codes ","
    ++ selection (codes "") (position (codes "") (codes "50")) ++
    codes "," ++ selection (codes "") (position (codes "\"IsAllocable\":\"unknown\",")
    (codes "60"))) (codes ",\"Overvotes\":20,\"Undervotes\":30,\"WriteIns\":45"))
    (codes "original")

-- that scan in p2; and a record in batch b1 of p2, with 11 for Ann
abbrev pub second_part : List Fact
second_part =
    device ∷ Header (codes "s1") ballot_box
    (header (codes "\"BatchId\":\"b1\",") (codes "p2") ballot_box)
    ∷ Snapshot (codes "s1") ballot_box dot other_adjudicated ∷
    Snapshot (codes "s1") (codes "u10") (codes "a") scan_of_all
    ∷ Header (codes "s1") (codes "u10") (header (codes "") (codes "p2") (codes "u10")) ∷ []

abbrev pub first : Facts
first = from_list first_part

abbrev pub second : Facts
second = from_list second_part

-- ---- rows of mayor

-- of p2 outside of batches, of p1, and of batch b1
abbrev pub keys : List RowKey
keys =
    record { contest = 0; unit = Some (codes "p2"); batch = None }
    ∷ record { contest = 0; unit = Some (codes "p1"); batch = None } ∷
    record { contest = 0; unit = Some (codes "p2"); batch = Some (codes "b1") } ∷ []

abbrev pub in_first : Row
in_first = row_from (1 ∷ 1 ∷ 2 ∷ 3 ∷ 5 ∷ 4 ∷ []) (7 ∷ 9 ∷ [])

abbrev pub in_second : Row
in_second = row_from (1 ∷ 20 ∷ 30 ∷ 45 ∷ 60 ∷ 50 ∷ []) (80 ∷ 100 ∷ [])

abbrev pub in_both : Row
in_both = row_from (2 ∷ 21 ∷ 32 ∷ 48 ∷ 65 ∷ 54 ∷ []) (87 ∷ 109 ∷ [])

-- a ballot with these votes for Ann, and nothing else
abbrev pub for_ann : ℕ → Row
for_ann n = row_from (1 ∷ []) (n ∷ 0 ∷ [])

-- ---- the answers

abbrev pub RowsOfFirst : Type 0
RowsOfFirst = map (row contests first) keys ≡ Some in_first ∷ Some (for_ann 40) ∷ None ∷ []

abbrev pub RowsOfSecond : Type 0
RowsOfSecond = map (row contests second) keys ≡ Some in_second ∷ None ∷ Some (for_ann 11) ∷ []

abbrev pub RowsOfBoth : Type 0
RowsOfBoth = map (row contests (union first second)) keys
    ≡ Some in_both ∷ Some (for_ann 40) ∷ Some (for_ann 11) ∷ []

-- the rows of both are their sums
abbrev pub SumsOfRows : Type 0
SumsOfRows =
    (option_sum (Some in_first) (Some in_second) ≡ Some in_both)
    × (option_sum (Some (for_ann 40)) None ≡ Some (for_ann 40))
    × (option_sum None (Some (for_ann 11)) ≡ Some (for_ann 11))

-- ---- columns

-- what columns of mayor come to in both
abbrev pub TotalsOfBoth : Type 0
TotalsOfBoth =
    map (total_of (rows contests (union first second)) 0)
    (Ballots ∷ Overvotes ∷ Undervotes ∷ WriteIns ∷ Pending ∷ Unassigned ∷ VotesFor 0 ∷ VotesFor 1
    ∷ [])
    ≡ 4 ∷ 21 ∷ 32 ∷ 48 ∷ 65 ∷ 54 ∷ 138 ∷ 109 ∷ []
