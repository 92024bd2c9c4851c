-- A worked example: facts of four records, others that come, and how often rows are changed. (This
-- project's own.)
use Rattle.std.specs.Prelude.{◌≡◌, ℕ, List, [], ◌∷◌, ◌++◌, map, codes}
use Rattle.std.specs.FinSet.{from_list, empty}
use Rattle.cdf_parts.specs.Places.{Contest}
use Rattle.cvr_fact_types.specs.Facts.{Fact, Device, Header, Snapshot, Facts}
use Rattle.cvr_office.specs.Examples.{contest, snapshot, header}
use Rattle.cvr_cached.specs.Moves.{move_count}

-- ---- facts

abbrev pub ids : List (List ℕ)
ids = codes "clerk" ∷ codes "judge" ∷ codes "mayor" ∷ codes "parks" ∷ codes "roads" ∷ codes "school"
    ∷ []

-- six contests, none with a selection
abbrev pub contests : List Contest
contests = map (λ id. (id, [])) ids

-- the text of contests with these ids, with commas between
abbrev pub contests_text : List (List ℕ) → List ℕ
contests_text [] = []
contests_text (id ∷ []) = contest id (codes "") (codes "")
contests_text (id ∷ next ∷ more) =
    contest id (codes "") (codes "") ++ codes "," ++ contests_text (next ∷ more)

-- a scan with these contests, and an adjudication, which is current where both are there
abbrev pub scan : List (List ℕ) → List ℕ
scan ids = snapshot (codes "a") (codes "") (contests_text ids) (codes "original")

abbrev pub adjudication : List (List ℕ) → List ℕ
adjudication ids = snapshot (codes "m") (codes "") (contests_text ids) (codes "modified")

-- a record whose current snapshot has 4 contests; its scan has all 6
abbrev pub of_four_contests : List Fact
of_four_contests =
    Header (codes "s1") (codes "u4") (header (codes "") (codes "p2") (codes "u4"))
    ∷ Snapshot (codes "s1") (codes "u4") (codes "a") (scan ids) ∷
    Snapshot (codes "s1") (codes "u4") (codes "m")
    (adjudication (codes "judge" ∷ codes "mayor" ∷ codes "parks" ∷ codes "school" ∷ [])) ∷ []

-- that record, and three others, whose current snapshots have 1, 2 and 3
abbrev pub held_facts : List Fact
held_facts =
    Header (codes "s1") (codes "u1") (header (codes "") (codes "p1") (codes "u1"))
    ∷ Snapshot (codes "s1") (codes "u1") (codes "a") (scan (codes "mayor" ∷ [])) ∷
    Header (codes "s1") (codes "u2") (header (codes "") (codes "p1") (codes "u2"))
    ∷ Snapshot (codes "s1") (codes "u2") (codes "a") (scan (codes "clerk" ∷ codes "mayor" ∷ []))
    ∷
    Header (codes "s1") (codes "u3") (header (codes "") (codes "p2") (codes "u3"))
    ∷ Snapshot (codes "s1") (codes "u3") (codes "a")
    (scan (codes "judge" ∷ codes "parks" ∷ codes "roads" ∷ [])) ∷
    of_four_contests

-- an adjudication of the first record, with 5 contests; a header of the second, with another unit;
-- a device; a new record, with all 6; and the record of 4 once more
abbrev pub coming : List Fact
coming =
    Snapshot (codes "s1") (codes "u1") (codes "m")
    (adjudication (codes "clerk" ∷ codes "judge" ∷ codes "parks" ∷ codes "roads"
    ∷ codes "school" ∷ [])) ∷
    Header (codes "s1") (codes "u2") (header (codes "") (codes "p3") (codes "u2"))
    ∷ Device (codes "s2") (codes "{\"@id\":\"s2\",\"@type\":\"CVR.ReportingDevice\"}") ∷
    Header (codes "s1") (codes "u5") (header (codes "") (codes "p1") (codes "u5"))
    ∷ Snapshot (codes "s1") (codes "u5") (codes "a") (scan ids) ∷
    of_four_contests

abbrev pub facts_before : Facts
facts_before = from_list held_facts

abbrev pub facts_after : Facts
facts_after = from_list (coming ++ held_facts)

-- ---- moves

-- 1 and 5 of the first record, 2 and 2 of the second, 6 of the new one
abbrev pub MovedWhereTheyCome : Type 0
MovedWhereTheyCome = move_count contests facts_before facts_after ≡ 16

-- from nothing to all that is held then, as rows are made anew: 5, 2, 3, 4 and 6
abbrev pub MovedWhereMadeAnew : Type 0
MovedWhereMadeAnew = move_count contests empty facts_after ≡ 20

-- and where the same comes once more, nothing is changed
abbrev pub MovedWhereNothingIsNew : Type 0
MovedWhereNothingIsNew =
    move_count contests facts_after (from_list (coming ++ coming ++ held_facts)) ≡ 0
