-- The ranges of a typed report beside the contests of a definition: places, counts and lengths.
-- (Limits: this project's own.)
use Rattle.std.specs.Prelude.{◌≡◌, ◌≤◌, ◌<◌, ◌==◌, ℕ, List, Some, length, map}
use Rattle.std.specs.List.{Contains, IsDistinct}
use Rattle.cdf_types.specs.declared.report.Position.{Position}
use Rattle.cdf_types.specs.declared.report.SelectionVote.{SelectionVote}
use Rattle.cdf_types.specs.declared.report.ContestVote.{ContestVote}
use Rattle.cdf_types.specs.declared.report.Snapshot.{Snapshot}
use Rattle.cdf_types.specs.declared.report.Cvr.{Cvr}
use Rattle.cdf_types.specs.declared.report.Report.{Report}
use Rattle.cdf_parts.specs.Places.{Contest, selections_at}

-- a count of the format: at most 4,294,967,295
abbrev pub IsCount : ℕ → Type 0
IsCount n = n ≤ 4_294_967_295

-- a place among so many selections, and 64 positions at most
pub record SelectionInRange (selections : ℕ) (s : SelectionVote) : Type 0 where
  pub place : (i : ℕ) → s.selection ≡ Some i → i < selections
  pub few : length s.positions ≤ 64
  pub votes : (p : Position) → Contains s.positions p → IsCount p.votes

-- a contest of the definition, and 65,536 selections at most
pub record ContestInRange (contests : List Contest) (c : ContestVote) : Type 0 where
  pub place : c.contest < length contests
  pub overvotes : IsCount c.overvotes
  pub undervotes : IsCount c.undervotes
  pub write_ins : IsCount c.write_ins
  pub few : length c.selections ≤ 65_536
  pub selections : (s : SelectionVote) → Contains c.selections s
      → SelectionInRange (length (selections_at contests c.contest)) s

-- no contest stands twice in the snapshot, and each is in range
pub record SnapshotInRange (contests : List Contest) (s : Snapshot) : Type 0 where
  pub once : IsDistinct ◌==◌ (map (λ c. c.contest) s.contests)
  pub votes : (c : ContestVote) → Contains s.contests c → ContestInRange contests c

-- each snapshot of the record is in range
abbrev pub CvrInRange : List Contest → Cvr → Type 0
CvrInRange contests c = (s : Snapshot) → Contains c.snapshots s → SnapshotInRange contests s

-- each record of the report is in range: places are below those of the definition, counts and
-- lengths within their limits, and no contest stands twice in a snapshot
abbrev pub ReportInRange : List Contest → Report → Type 0
ReportInRange contests r = (c : Cvr) → Contains r.cvrs c → CvrInRange contests c
