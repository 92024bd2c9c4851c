-- Contests with the ids of their selections, as totals hold them. (NIST SP 1500-103, classes
-- Contest and ContestSelection.)
use Rattle.std.specs.Prelude.{List, map}
use Rattle.cdf_parts.specs.Places.{Contest}
use Rattle.cvr_tally.specs.declared.contest_ids.ContestIds.{ContestIds}

-- a contest's id, and those of its selections
abbrev pub contests_of : List ContestIds → List Contest
contests_of contests = map (λ c. (c.id, c.selections)) contests
