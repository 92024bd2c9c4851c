-- Worked examples: rows of three contests, and the text of their tally; a row with one more ballot.
-- (This project's own.)
use Rattle.std.specs.Prelude.{◌≡◌, ℕ, List, [], ◌∷◌, ◌++◌, Option, Some, None, codes}
use Rattle.std.specs.FinMap.{from_entries}
use Rattle.cdf_parts.specs.Places.{Contest}
use Rattle.cvr_fact_types.specs.declared.sums.VoteSums.{VoteSums}
use Rattle.cvr_fact_types.specs.Columns.{sums_from}
use Rattle.cvr_tally.specs.declared.key.RowKey.{RowKey}
use Rattle.cvr_tally.specs.declared.row.Row.{Row}
use Rattle.cvr_tally.specs.Rows.{row_from, row_plus, row_minus, HasRoom, HasSums}
use Rattle.cvr_tally.specs.Text.{tally_text}

-- a ballot box, U+1F5F3, and a halfwidth dot, U+FF65, in UTF-8: by bytes the dot comes first, by
-- UTF-16 it would come last
abbrev pub ballot_box : List ℕ
ballot_box = 240 ∷ 159 ∷ 151 ∷ 179 ∷ []

abbrev pub dot : List ℕ
dot = 239 ∷ 189 ∷ 165 ∷ []

-- the first with two selections, one with a quote in its id; the second with one; the third with
-- none
abbrev pub contests : List Contest
contests = (codes "mayor", codes "ann" ∷ codes "b\"o" ∷ []) ∷ (ballot_box, dot ∷ [])
    ∷ (codes "q", []) ∷ []

-- of a contest, a unit and a batch: ballots, overvotes, undervotes, write-ins, pending and
-- unassigned votes, then those of selections
abbrev pub row_at : ℕ → Option (List ℕ) → Option (List ℕ) → List ℕ → List ℕ → RowKey × Row
row_at contest unit batch numbers votes = (
  record { contest = contest; unit = unit; batch = batch },
  row_from numbers votes,
)

-- in no order, all numbers different
abbrev pub some_rows : List (RowKey × Row)
some_rows =
    row_at 1 (Some ballot_box) (Some (codes "b")) (12 ∷ 1 ∷ 2 ∷ 3 ∷ 4 ∷ 5 ∷ []) (6 ∷ []) ∷
    row_at 0 (Some (codes "pp")) (None) (13 ∷ 14 ∷ 15 ∷ 16 ∷ 17 ∷ 18 ∷ []) (19 ∷ 20 ∷ []) ∷
    row_at 0 (Some (codes "p")) (Some (codes "b2")) (21 ∷ 22 ∷ 23 ∷ 24 ∷ 25 ∷ 26 ∷ [])
    (27 ∷ 28 ∷ []) ∷
    row_at 2 (None) (None) (29 ∷ 30 ∷ 31 ∷ 32 ∷ 33 ∷ 34 ∷ []) ([]) ∷
    row_at 0 (Some ballot_box) (None) (35 ∷ 36 ∷ 37 ∷ 38 ∷ 39 ∷ 40 ∷ []) (41 ∷ 42 ∷ []) ∷
    row_at 0 (Some (codes "p")) (None) (43 ∷ 44 ∷ 45 ∷ 46 ∷ 47 ∷ 48 ∷ []) (49 ∷ 50 ∷ []) ∷
    row_at 0 (None) (Some (codes "z")) (51 ∷ 52 ∷ 53 ∷ 54 ∷ 55 ∷ 56 ∷ []) (57 ∷ 58 ∷ []) ∷
    row_at 0 (Some dot) (None) (59 ∷ 60 ∷ 61 ∷ 62 ∷ 63 ∷ 64 ∷ []) (65 ∷ 66 ∷ []) ∷
    row_at 0 (Some (codes "p")) (Some (codes "b10")) (67 ∷ 68 ∷ 69 ∷ 70 ∷ 71 ∷ 72 ∷ [])
    (340_282_366_920_938_463_463_374_607_431_768_211_455 ∷ 0 ∷ []) ∷ []

-- a line for each, in order
abbrev pub expected : List ℕ
expected =
    codes "\"mayor\" null \"z\" 51 52 53 54 55 56 \"ann\" 57 \"b\\\"o\" 58\n" ++
    codes "\"mayor\" \"p\" null 43 44 45 46 47 48 \"ann\" 49 \"b\\\"o\" 50\n" ++
    codes "\"mayor\" \"p\" \"b10\" 67 68 69 70 71 72 \"ann\" 340282366920938463463374607431768211455 \"b\\\"o\" 0\n" ++
    codes "\"mayor\" \"p\" \"b2\" 21 22 23 24 25 26 \"ann\" 27 \"b\\\"o\" 28\n" ++
    codes "\"mayor\" \"pp\" null 13 14 15 16 17 18 \"ann\" 19 \"b\\\"o\" 20\n" ++
    codes "\"mayor\" \"" ++ dot ++ codes "\" null 59 60 61 62 63 64 \"ann\" 65 \"b\\\"o\" 66\n" ++
    codes "\"mayor\" \"" ++ ballot_box ++ codes
    "\" null 35 36 37 38 39 40 \"ann\" 41 \"b\\\"o\" 42\n" ++
    codes "\"" ++ ballot_box ++ codes "\" \"" ++ ballot_box ++ codes "\" \"b\" 12 1 2 3 4 5 \""
    ++ dot ++ codes "\" 6\n" ++
    codes "\"q\" null null 29 30 31 32 33 34\n"

-- the text of the tally of these rows
abbrev pub text_of : List Contest → List (RowKey × Row) → List ℕ
text_of contests rows = tally_text contests (from_entries rows)

abbrev pub TextOfTally : Type 0
TextOfTally = text_of contests some_rows ≡ expected

-- ---- one ballot more, and taken out again

abbrev pub sums_of_a_ballot : VoteSums
sums_of_a_ballot = sums_from 0 (1 ∷ 20 ∷ 3 ∷ 40 ∷ 5 ∷ []) (7 ∷ 80 ∷ [])

abbrev pub row_before : Row
row_before = row_from (9 ∷ 100 ∷ 200 ∷ 300 ∷ 400 ∷ 500 ∷ []) (600 ∷ 700 ∷ [])

abbrev pub row_after : Row
row_after = row_from (10 ∷ 101 ∷ 220 ∷ 303 ∷ 440 ∷ 505 ∷ []) (607 ∷ 780 ∷ [])

abbrev pub RowsOfABallot : Type 0
RowsOfABallot = (row_plus row_before sums_of_a_ballot ≡ row_after)
    × (row_minus row_after sums_of_a_ballot ≡ row_before)

-- ---- the most that a row can have, and what it has to have

abbrev pub with_ballots : ℕ → Row
with_ballots n = record row_before { ballots = n }

abbrev pub with_undervotes : ℕ → Row
with_undervotes n = record row_before { undervotes = n }

abbrev pub with_votes : List ℕ → Row
with_votes votes = record row_before { votes = votes }

-- The ballots of a row stay below 2^64, and its other numbers below 2^128: with one ballot more,
-- 20 undervotes more, or 80 votes more for the second selection.
pub record RoomOfARow : Type 0 where
  pub last_ballot : HasRoom (with_ballots 18_446_744_073_709_551_614) sums_of_a_ballot
  pub no_ballot : ¬ HasRoom (with_ballots 18_446_744_073_709_551_615) sums_of_a_ballot
  pub undervotes :
      HasRoom (with_undervotes 340_282_366_920_938_463_463_374_607_431_768_211_435) sums_of_a_ballot
  pub no_undervotes : ¬
      HasRoom (with_undervotes 340_282_366_920_938_463_463_374_607_431_768_211_436) sums_of_a_ballot
  pub votes :
      HasRoom (with_votes (600 ∷ 340_282_366_920_938_463_463_374_607_431_768_211_375 ∷ []))
      sums_of_a_ballot
  pub no_votes : ¬
      HasRoom (with_votes (600 ∷ 340_282_366_920_938_463_463_374_607_431_768_211_376 ∷ []))
      sums_of_a_ballot

-- of just these sums
abbrev pub row_of_a_ballot : Row
row_of_a_ballot = row_from (1 ∷ 1 ∷ 20 ∷ 3 ∷ 40 ∷ 5 ∷ []) (7 ∷ 80 ∷ [])

-- A row has the sums of a ballot where each of its numbers is at least theirs, and has a ballot.
pub record SumsOfARow : Type 0 where
  pub just : HasSums row_of_a_ballot sums_of_a_ballot
  pub no_ballot : ¬ HasSums (with_ballots 0) sums_of_a_ballot
  pub few_undervotes : ¬ HasSums (with_undervotes 19) sums_of_a_ballot
  pub few_votes : ¬ HasSums (with_votes (600 ∷ 79 ∷ [])) sums_of_a_ballot
