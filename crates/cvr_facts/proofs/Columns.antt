-- The columns of sums: how large they are, and what one more contest selection adds.
use Rattle.std.proofs.Common.{◌≡◌, ◌<◌, ◌≤◌, ◌+◌, ℕ, List, [], ◌∷◌, Some, None, cond}
use Rattle.std.proofs.Common.{ap, sym, subst, ◌∙◌, refl, arith, inl, inr, length, map, take, get_or}
use Rattle.std.proofs.Common.{length-take, get_or-take}
use Rattle.std.specs.Prelude.{is_none, Option}
use Rattle.std.specs.Option.{IfSome}
use Rattle.std.specs.List.{AllByRecursion, range_with_len, sum_by}
use Rattle.std.proofs.lemmas.Bool.{cases_lt}
use Rattle.std.proofs.lemmas.List.{get_or_past, take_all}
use Rattle.std.proofs.lemmas.List.FromFn.{length-map-range_with_len, get_or-map-range_with_len}
use Rattle.std.proofs.lemmas.List.Sums.{sum_by_more}
use Rattle.cdf_types.specs.declared.report.Position.{Position}
use Rattle.cdf_types.specs.declared.report.SelectionVote.{SelectionVote}
use Rattle.cdf_types.specs.declared.report.ContestVote.{ContestVote}
use Rattle.cdf_parts.specs.Places.{Contest, selections_at}
use Rattle.cdf_typed.specs.Range.{SelectionInRange, ContestInRange}
use Rattle.cvr_fact_types.specs.declared.sums.VoteSums.{VoteSums}
use Rattle.cvr_fact_types.specs.Columns.{Column, Pending, Unassigned, VotesFor, columns, worth}
use Rattle.cvr_facts.specs.declared.sums.Votes.{Votes}
use Rattle.cvr_facts.specs.Sums.{counts, is_pending, votes_of, names_place, names_none, votes_for}
use Rattle.cvr_facts.specs.Sums.{votes_among, sums_of, sum_limit, AreBelow}
use Rattle.cvr_facts.proofs.Bounds.{positions-le, votes_of-le, votes_are_below, part-lt}
use Rattle.cvr_facts.proofs.Counting.{sum_by-filter_more, votes_with, votes_more}

pub sums_of_are_below : (contests : List Contest) (vote : ContestVote)
    → ContestInRange contests vote → AreBelow sum_limit (sums_of contests vote)
sums_of_are_below contests vote h Pending = votes_are_below _ contests vote h
sums_of_are_below contests vote h Unassigned = part-lt names_none contests vote h
sums_of_are_below contests vote h (VotesFor place) =
    let votes : ℕ → ℕ = λ place. votes_for place vote in
    let n = length (selections_at contests vote.contest) in
    elim (cases_lt place n) [
      | inl less ↦ subst (λ k. k < sum_limit)
          (sym (get_or-map-range_with_len votes 0 n place place 0 less (omega arith)))
          (part-lt (names_place place) contests vote h)
      | inr past ↦ let none = get_or_past (map votes (range_with_len 0 n)) place 0
          (omega (arith, length-map-range_with_len votes 0 n, past)) in omega (arith, none)
    ]
sums_of_are_below contests vote h _ = omega (arith, h.overvotes, h.undervotes, h.write_ins)

-- what holds of any column holds of each
below_in : (limit : ℕ) (sums : VoteSums) → AreBelow limit sums → (cs : List Column)
    → AllByRecursion (λ column. worth column sums < limit) cs
below_in limit sums below [] = tt
below_in limit sums below (column ∷ cs) = (below column, below_in limit sums below cs)

pub below_in_each : (limit : ℕ) (sums : VoteSums) → AreBelow limit sums
    → AllByRecursion (λ column. worth column sums < limit) columns
below_in_each limit sums below = below_in limit sums below columns

-- ---- one more contest selection

-- the contest with its first selections alone
abbrev pub seen : ContestVote → ℕ → ContestVote
seen vote i = record vote { selections = take i vote.selections }

seen_in_range : (contests : List Contest) (vote : ContestVote) (i : ℕ)
    → ContestInRange contests vote → ContestInRange contests (seen vote i)
seen_in_range contests vote i h = record {
  place = h.place;
  overvotes = h.overvotes;
  undervotes = h.undervotes;
  write_ins = h.write_ins;
  few = omega (arith, h.few, length-take i vote.selections);
  selections = λ s (k, within, at).
      let less : k < i = omega (arith, within, length-take i vote.selections) in
      let whole : k < length vote.selections =
      omega (arith, within, length-take i vote.selections) in
      h.selections s (k, whole, sym (get_or-take i vote.selections k s less) ∙ at);
}

named_below : (place : Option ℕ) (n : ℕ) → ((p : ℕ) → place ≡ Some p → p < n)
    → IfSome place (λ p. p < n)
named_below None n h = tt
named_below (Some p) n h = h p refl

module _ (contests : List Contest) (vote : ContestVote) (h : ContestInRange contests vote) where
  pub all_seen : (i : ℕ) → length vote.selections ≤ i
      → sums_of contests (seen vote i) ≡ sums_of contests vote
  all_seen i all = ap (λ xs. sums_of contests (record vote { selections = xs }))
      (take_all i vote.selections all)

  pub seen_below : (i : ℕ) (sums : VoteSums) → sums ≡ sums_of contests (seen vote i)
      → AreBelow sum_limit sums
  seen_below i sums same = subst (AreBelow sum_limit) (sym same)
      (sums_of_are_below contests (seen vote i) (seen_in_range contests vote i h))

  module _ (i : ℕ) (x : SelectionVote)
      (at : (i < length vote.selections) × (x ≡ get_or vote.selections i x)) where
    in_range : SelectionInRange (length (selections_at contests vote.contest)) x
    in_range = h.selections x (i, at.0, sym at.1)

    pub place-lt : (sums : VoteSums) → sums ≡ sums_of contests (seen vote i) → (place : Option ℕ)
        → place ≡ x.selection → IfSome place (λ p. p < length sums.votes)
    place-lt sums same place names = named_below place _ (λ p named.
        omega (
          arith,
          in_range.place p (sym names ∙ named),
          ap (λ (s : VoteSums). length s.votes) same,
          length-map-range_with_len (λ place. votes_for place (seen vote i)) 0
              (length (selections_at contests vote.contest)),
        ))

    module _ (ps : List Position) (are : ps ≡ x.positions) where
      pub positions-lt : sum_by (λ p. p.votes) ps < sum_limit
      positions-lt = rw are (omega (arith, positions-le _ x in_range))

      module _ (added : Votes) (counted : added.counted ≡ votes_among counts ps)
          (pending : added.pending ≡ votes_among is_pending ps) where
        pub added-lt : (added.counted < sum_limit) × (added.pending < sum_limit)
        added-lt = (
          omega (arith, counted, ap (votes_among counts) are, votes_of-le counts _ x in_range),
          omega (
            arith,
            pending,
            ap (votes_among is_pending) are,
            votes_of-le is_pending _ x in_range,
          ),
        )

        pub one_more : (sums : VoteSums) → sums ≡ sums_of contests (seen vote i)
            → (place : Option ℕ) → place ≡ x.selection
            → record sums {
              votes = votes_with sums.votes place added.counted;
              pending = sums.pending + added.pending;
              unassigned = sums.unassigned + cond (is_none place) added.counted 0;
            } ≡ sums_of contests (seen vote (i + 1))
        one_more sums same place names =
            let xs = vote.selections in
            let here = counted ∙ ap (votes_among counts) are in
            let votes = (λ j. votes_with (same j).votes (names j) (here j))
            ∙ votes_more _ xs i x at.0 at.1 (named_below x.selection _ in_range.place) in
            let pends = (λ j. (same j).pending + (pending ∙ ap (votes_among is_pending) are) j)
            ∙ (ap (λ y. sum_by (votes_of is_pending) (take i xs) + votes_of is_pending y) at.1
            ∙ sym (sum_by_more (votes_of is_pending) xs i x at.0)) in
            let rest = (λ j. (same j).unassigned + cond (is_none (names j)) (here j) 0)
            ∙ sym (sum_by-filter_more (votes_of counts) names_none xs i x at.0 at.1) in
            λ j. record (same j) { votes = votes j; pending = pends j; unassigned = rest j }
