-- The tally of files counts each record once. (This project's own.)
use Rattle.std.specs.Prelude.{◌≡◌, ℕ, List, length}
use Rattle.cdf_definition.specs.Acceptance.{Sound, frame_in}
use Rattle.cvr_fact_types.specs.Columns.{Column, Ballots}
use Rattle.cvr_office.specs.Counting.{total_of, total_of_records, records_with}
use Rattle.cvr_office.specs.Tallied.{rows}
use Rattle.cvr_whole.specs.Volumes.{held}

-- each column of a contest, added up over all rows, is what the current snapshots of all records of
-- the accepted files come to: no vote is lost, and none counts twice
abbrev pub EachVoteLaw : Type 0
EachVoteLaw = (def : List ℕ) (files : List (List ℕ)) (c : ℕ) (column : Column) → Sound def
    → total_of (rows (frame_in def).contests (held def files)) c column
    ≡ total_of_records (frame_in def).contests (held def files) c column

-- and its ballots are as many as the records of these files whose current snapshot has the contest
abbrev pub EachBallotLaw : Type 0
EachBallotLaw = (def : List ℕ) (files : List (List ℕ)) (c : ℕ) → Sound def
    → total_of (rows (frame_in def).contests (held def files)) c Ballots
    ≡ length (records_with (frame_in def).contests (held def files) c)
