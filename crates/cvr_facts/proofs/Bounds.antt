-- How large the sums of a contest can be.
use Rattle.std.proofs.Common.{◌≡◌, ◌<◌, ◌≤◌, ◌+◌, ℕ, get_or, take, ap, List, Bool, not, refl}
use Rattle.std.proofs.Common.{length, arith}
use Rattle.std.specs.List.{All, filter, sum_by}
use Rattle.std.proofs.lemmas.List.Elements.{All-filter, Contains-get_or}
use Rattle.std.proofs.lemmas.List.Filters.{sum_by-filter_both}
use Rattle.std.proofs.lemmas.List.Sums.{sum_by-le, sum_by_more_le, length-filter}
use Rattle.std.proofs.lemmas.List.Sums.{count_by-le-length}
use Rattle.cdf_types.specs.declared.report.Position.{Position}
use Rattle.cdf_types.specs.declared.report.SelectionVote.{SelectionVote}
use Rattle.cdf_types.specs.declared.report.ContestVote.{ContestVote}
use Rattle.cdf_types.specs.declared.report.Snapshot.{Snapshot}
use Rattle.cdf_parts.specs.Places.{Contest}
use Rattle.cdf_typed.specs.Range.{IsCount, SelectionInRange, ContestInRange, SnapshotInRange}
use Rattle.cvr_facts.specs.Sums.{counts, votes_of, sum_limit, AreInRange}

-- the most that a selection can have
abbrev pub selection_limit : ℕ
selection_limit = 274_877_906_880

pub votes_of-le : (sort : Position → Bool) (n : ℕ) (s : SelectionVote) → SelectionInRange n s
    → votes_of sort s ≤ selection_limit
votes_of-le sort n s h =
    let all : All (λ p. IsCount p.votes) s.positions =
    λ k d less. h.votes _ (Contains-get_or s.positions k d less) in
    let most = sum_by-le (λ p. p.votes) 4_294_967_295 (filter sort s.positions)
    (All-filter sort (λ p. IsCount p.votes) s.positions all) in
    omega (arith, most, h.few, length-filter sort s.positions, count_by-le-length sort s.positions)

pub positions-le : (n : ℕ) (s : SelectionVote) → SelectionInRange n s
    → sum_by (λ p. p.votes) s.positions ≤ selection_limit
positions-le n s h =
    let all : All (λ p. IsCount p.votes) s.positions =
    λ k d less. h.votes _ (Contains-get_or s.positions k d less) in
    omega (arith, sum_by-le (λ p. p.votes) 4_294_967_295 s.positions all, h.few)

pub votes_are_below : (sort : Position → Bool) (contests : List Contest) (vote : ContestVote)
    → ContestInRange contests vote
    → sum_by (votes_of sort) vote.selections < sum_limit
votes_are_below sort contests vote h =
    let all : All (λ s. votes_of sort s ≤ selection_limit) vote.selections =
    λ k d less. votes_of-le sort _ _ (h.selections _ (Contains-get_or vote.selections k d less)) in
    omega (arith, sum_by-le (votes_of sort) selection_limit vote.selections all, h.few)

-- a part of a sum is at most the sum
pub sum_by-filter-le : {X : Type 0} (f : X → ℕ) (p : X → Bool) (xs : List X)
    → sum_by f (filter p xs) ≤ sum_by f xs
sum_by-filter-le f p xs = omega (arith, sum_by-filter_both p (λ x. not (p x)) (λ _. refl) f xs)

-- a part of a sum so far, and the next number, stay within the whole
pub sum_by-filter_next-lt : {X : Type 0} (f : X → ℕ) (p : X → Bool) (xs : List X) (i : ℕ) (x : X)
    (limit : ℕ) → i < length xs → x ≡ get_or xs i x
    → sum_by f xs < limit → sum_by f (filter p (take i xs)) + f x < limit
sum_by-filter_next-lt f p xs i x limit less is whole =
    omega (arith, sum_by-filter-le f p (take i xs), sum_by_more_le f xs i x less, ap f is)

pub part-lt : (p : SelectionVote → Bool) (contests : List Contest) (vote : ContestVote)
    → ContestInRange contests vote
    → sum_by (votes_of counts) (filter p vote.selections) < sum_limit
part-lt p contests vote h =
    omega (
      arith,
      sum_by-filter-le (votes_of counts) p vote.selections,
      votes_are_below counts
          contests vote h,
    )

pub AreInRange-from_snapshot : (contests : List Contest) (s : Snapshot) → SnapshotInRange contests s
    → AreInRange contests s.contests
AreInRange-from_snapshot contests s h = record { once = h.once; each = h.votes }
