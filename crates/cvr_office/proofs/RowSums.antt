-- The sums of a snapshot: no contest stands twice, and each has a number for each of its
-- selections.
use Rattle.std.proofs.Common.{◌==◌, List, length, subst, arith, ne_eqb}
use Rattle.std.proofs.lemmas.List.FromFn.{length-map-range_with_len}
use Rattle.std.proofs.lemmas.List.Sorted.{Contains-permutation, IsPermutation-sym}
use Rattle.std.proofs.lemmas.Map.Keys.{IsDistinct-from_apart, below_from_sorted}
use Rattle.cdf_types.specs.declared.report.ContestVote.{ContestVote}
use Rattle.cdf_parts.specs.Places.{Contest, selections_at}
use Rattle.cvr_facts.specs.Sums.{votes_for, sums_of, sums_in, AreInRange}
use Rattle.cvr_facts.proofs.Laws.{each_once, in_order, sums_of_are_below}
use Rattle.cvr_facts.proofs.Lemmas.{from_map}
use Rattle.cvr_office.specs.Adding.{IsSums, AreSums}

pub sums_in_place : (contests : List Contest) (votes : List ContestVote) → AreInRange contests votes
    → AreSums contests (sums_in contests votes)
sums_in_place contests votes h = record {
  once = IsDistinct-from_apart ◌==◌ _ (λ i j d first within.
      ne_eqb _ _ (λ same. omega (
        arith,
        same,
        below_from_sorted _ i j d (in_order contests votes h)
            first within,
      )));
  each = λ v at.
      let moved = IsPermutation-sym _ _ (each_once contests votes h) in
      let w = from_map (sums_of contests) v votes (Contains-permutation _ _ v moved at) in
      let range = h.each w.0 w.1 in
      let long = length-map-range_with_len (λ place. votes_for place w.0) 0
      (length (selections_at contests w.0.contest)) in
      subst (IsSums contests) w.2 (record
      { place = range.place; votes = long; below = sums_of_are_below contests w.0 range });
}
