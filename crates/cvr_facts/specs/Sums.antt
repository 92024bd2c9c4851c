-- The sums of a snapshot: for each of its contests the votes that count, are pending or name no
-- selection. (NIST SP 1500-103, classes CVRContest, CVRContestSelection and SelectionPosition;
-- which positions count is this project's own.)
use Rattle.std.specs.Prelude.{◌<◌, ◌==◌, ℕ, List, map, length, Bool, true, false, ◌&&◌, is_none}
use Rattle.std.specs.List.{filter, flat_map, range_with_len, sum_by, Contains, IsDistinct}
use Rattle.std.specs.Option.{option_map_or}
use Rattle.cdf_types.specs.declared.mark.Indication.{Indication}
use Rattle.cdf_types.specs.declared.mark.Indication.TheVariants as indication
use Rattle.cdf_types.specs.declared.mark.Allocation.{Allocation}
use Rattle.cdf_types.specs.declared.mark.Allocation.TheVariants as allocation
use Rattle.cdf_types.specs.declared.report.Position.{Position}
use Rattle.cdf_types.specs.declared.report.SelectionVote.{SelectionVote}
use Rattle.cdf_types.specs.declared.report.ContestVote.{ContestVote}
use Rattle.cdf_parts.specs.Places.{Contest, selections_at}
use Rattle.cdf_typed.specs.Range.{ContestInRange}
use Rattle.cvr_fact_types.specs.declared.sums.VoteSums.{VoteSums}
use Rattle.cvr_fact_types.specs.Columns.{Column, worth}

-- ---- positions

-- whether HasIndication is `yes`
abbrev pub is_marked : Indication → Bool
is_marked indication.Yes = true
is_marked i = false

-- whether IsAllocable is `yes`
abbrev pub is_allowed : Allocation → Bool
is_allowed allocation.Yes = true
is_allowed a = false

-- whether IsAllocable is `unknown`
abbrev pub is_unsettled : Allocation → Bool
is_unsettled allocation.Unknown = true
is_unsettled a = false

-- a position counts where IsAllocable is `yes`, or is absent while HasIndication is `yes`
abbrev pub counts : Position → Bool
counts p = option_map_or is_allowed p.allocation (is_marked p.indication)

-- a position is pending where IsAllocable is `unknown` and HasIndication is `yes`
abbrev pub is_pending : Position → Bool
is_pending p = option_map_or is_unsettled p.allocation false && is_marked p.indication

-- the votes of the positions of this sort
abbrev pub votes_among : (Position → Bool) → List Position → ℕ
votes_among sort positions = sum_by (λ p. p.votes) (filter sort positions)

-- ---- contest selections

-- the votes of its positions of this sort
abbrev pub votes_of : (Position → Bool) → SelectionVote → ℕ
votes_of sort s = votes_among sort s.positions

-- whether the selection at this place is named
abbrev pub names_place : ℕ → SelectionVote → Bool
names_place place s = option_map_or (λ i. i == place) s.selection false

-- whether no selection is named
abbrev pub names_none : SelectionVote → Bool
names_none s = is_none s.selection

-- ---- contests

-- the places in a list: 0, 1, and so on, one for each of its items
abbrev pub places_of : {X : Type 0} → List X → List ℕ
places_of xs = range_with_len 0 (length xs)

-- the votes of the selection at a place
abbrev pub votes_for : ℕ → ContestVote → ℕ
votes_for place vote = sum_by (votes_of counts) (filter (names_place place) vote.selections)

-- the counting votes of those contest selections that name no selection
abbrev pub unassigned_in : ContestVote → ℕ
unassigned_in vote = sum_by (votes_of counts) (filter names_none vote.selections)

-- the votes of pending positions, of all contest selections
abbrev pub pending_in : ContestVote → ℕ
pending_in vote = sum_by (votes_of is_pending) vote.selections

-- the votes of each selection of the contest, in order of place, and its other numbers
abbrev pub sums_of : List Contest → ContestVote → VoteSums
sums_of contests vote = record {
  contest = vote.contest;
  votes = map (λ place. votes_for place vote) (places_of (selections_at contests vote.contest));
  overvotes = vote.overvotes;
  undervotes = vote.undervotes;
  write_ins = vote.write_ins;
  pending = pending_in vote;
  unassigned = unassigned_in vote;
}

-- ---- snapshots

-- a snapshot's contests, in order of their places in the definition
abbrev pub by_place : List Contest → List ContestVote → List ContestVote
by_place contests votes =
    flat_map (λ place. filter (λ vote. vote.contest == place) votes) (places_of contests)

-- their sums
abbrev pub sums_in : List Contest → List ContestVote → List VoteSums
sums_in contests votes = map (sums_of contests) (by_place contests votes)

-- contests of the definition, each once and in range
pub record AreInRange (contests : List Contest) (votes : List ContestVote) : Type 0 where
  pub once : IsDistinct ◌==◌ (map (λ vote. vote.contest) votes)
  pub each : (vote : ContestVote) → Contains votes vote → ContestInRange contests vote

-- ---- bounds

-- the most that a sum can be: 65,536 selections with 64 positions of 4,294,967,295 votes stay below
-- it
abbrev pub sum_limit : ℕ
sum_limit = 18_014_398_509_481_984

-- the sums are below this limit in each column
abbrev pub AreBelow : ℕ → VoteSums → Type 0
AreBelow limit sums = (column : Column) → worth column sums < limit
