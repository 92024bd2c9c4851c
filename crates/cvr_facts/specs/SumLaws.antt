-- Laws of positions and of the sums of a snapshot, in the words of the standard. (Classes
-- SelectionPosition, CVRContestSelection, CVRContest of NIST SP 1500-103; which positions count is
-- this project's own.)
use Rattle.std.specs.Prelude.{◌≡◌, ◌↔◌, ◌+◌, List, map, true, false, None}
use Rattle.std.specs.List.{sum, sum_by}
use Rattle.std.specs.List.Sorted.{IsPermutation, IsStrictlySortedBy}
use Rattle.std.specs.Ordering.{nat_cmp}
use Rattle.cdf_types.specs.declared.mark.Indication.TheVariants.{Yes}
use Rattle.cdf_types.specs.declared.report.Position.{Position}
use Rattle.cdf_types.specs.declared.report.ContestVote.{ContestVote}
use Rattle.cdf_parts.specs.Places.{Contest}
use Rattle.cdf_types.specs.declared.report.Snapshot.{Snapshot}
use Rattle.cdf_typed.specs.Range.{ContestInRange, SnapshotInRange}
use Rattle.cvr_facts.specs.Sums.{counts, is_pending, votes_of, sums_of, sums_in, AreInRange}

-- ---- positions

-- no position both counts and is pending
abbrev pub EitherLaw : Type 0
EitherLaw = (p : Position) → counts p ≡ true → is_pending p ≡ false

-- only a marked position is pending
abbrev pub MarkedLaw : Type 0
MarkedLaw = (p : Position) → is_pending p ≡ true → p.indication ≡ Yes

-- without IsAllocable a position counts exactly where HasIndication is `yes`
abbrev pub UnsetLaw : Type 0
UnsetLaw = (p : Position) → p.allocation ≡ None → (counts p ≡ true) ↔ (p.indication ≡ Yes)

-- ---- sums

-- the votes of a contest's selections and the unassigned ones add up to the votes of its counting
-- positions: none is lost, and none counts twice
abbrev pub VotesLaw : Type 0
VotesLaw = (contests : List Contest) (vote : ContestVote) → ContestInRange contests vote
    → sum (sums_of contests vote).votes + (sums_of contests vote).unassigned
    ≡ sum_by (votes_of counts) vote.selections

-- the contests of a snapshot that is in range are in range
abbrev pub SnapshotRangeLaw : Type 0
SnapshotRangeLaw = (contests : List Contest) (s : Snapshot) → SnapshotInRange contests s
    → AreInRange contests s.contests

-- a snapshot has the sums of each of its contests once
abbrev pub EachOnceLaw : Type 0
EachOnceLaw = (contests : List Contest) (votes : List ContestVote) → AreInRange contests votes
    → IsPermutation (map (sums_of contests) votes) (sums_in contests votes)

-- in order of the contests' places
abbrev pub InOrderLaw : Type 0
InOrderLaw = (contests : List Contest) (votes : List ContestVote) → AreInRange contests votes
    → IsStrictlySortedBy nat_cmp (map (λ s. s.contest) (sums_in contests votes))
