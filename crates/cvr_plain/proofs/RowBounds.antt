-- The numbers of a row are below its limits.
use Rattle.std.proofs.Common.{◌≡◌, ℕ, ◌*◌, ◌≤◌, List, length, get_or, Option, Some, None, refl}
use Rattle.std.proofs.Common.{arith, ◌==◌, ◌<◌, true, false, cond, IfSome}
use Rattle.std.proofs.lemmas.List.Sums.{length-filter, count_by-le-length, sum_by-le}
use Rattle.std.specs.List.{filter}
use Rattle.std.specs.Option.{option_map_or}
use Rattle.cdf_parts.specs.Places.{Contest, selections_at}
use Rattle.cvr_fact_types.specs.Facts.{Facts}
use Rattle.cvr_facts.specs.Sums.{sum_limit, AreBelow}
use Rattle.cvr_fact_types.specs.declared.name.RecordName.{RecordName}
use Rattle.cvr_fact_types.specs.declared.sums.VoteSums.{VoteSums}
use Rattle.cvr_fact_types.specs.Columns.{Column, Ballots, worth}
use Rattle.cvr_tally.specs.Rows.{ballot_limit, number_in}
use Rattle.cvr_tally.proofs.Lemmas.{number_in-row_by-le}
use Rattle.cvr_tally.specs.declared.key.RowKey.{RowKey}
use Rattle.cvr_office.specs.Adding.{CurrentsAreSums, CanGrow}
use Rattle.cvr_office.specs.Tallied.{sums_at, stands_in, column_over, row_of, row_over, total_limit}
use Rattle.cvr_office.specs.Tallied.{IsBelow}
use Rattle.cvr_lists.proofs.Laws.{sums_there}

module _ (contests : List Contest) (s : Facts) (sums : CurrentsAreSums contests s)
    (q : RowKey) where
  abbrev standing : List RecordName → List RecordName
  standing rs = filter (stands_in contests s q) rs

  -- ---- columns

  module _ (column : Column) (most : ℕ)
      (each : (v : VoteSums) → AreBelow sum_limit v → worth column v ≤ most) where
    one-le : (r : RecordName) (o : Option VoteSums) → sums_at contests s q.contest r ≡ o
        → option_map_or (worth column) o 0 ≤ most
    one-le r None is = omega arith
    one-le r (Some v) is = each v (sums_there contests s sums q.contest r v is).0.below

    column-le : (rs : List RecordName) → number_in column (row_of contests s q.contest rs)
        ≤ length rs * most
    column-le rs =
        let whole = sum_by-le (λ r. option_map_or (worth column) (sums_at contests s q.contest r) 0)
        most rs (λ k d lt. one-le (get_or rs k d) _ refl) in
        let part = number_in-row_by-le (length (selections_at contests q.contest))
        (column_over contests s q.contest rs) column in
        omega (arith, part, whole)

  -- ---- rows

  row_below : (rs : List RecordName) → length rs ≤ ballot_limit
      → IsBelow total_limit (row_of contests s q.contest rs)
  row_below rs few column =
      let le =
      column-le column sum_limit (λ v below. let lt = below column in omega (arith, lt)) rs in
      omega (arith, le, few)

  row_few : (rs : List RecordName) → (row_of contests s q.contest rs).ballots ≤ length rs
  row_few rs = let le = column-le Ballots 1 (λ v below. omega arith) rs in omega (arith, le)

  few_stand : (rs : List RecordName) → length (standing rs) ≤ length rs
  few_stand rs = omega (
    arith,
    length-filter (stands_in contests s q) rs,
    count_by-le-length
        (stands_in contests s q) rs,
  )

  pub row_over-below : (rs : List RecordName) → length rs ≤ ballot_limit
      → IfSome (row_over contests s q rs) (IsBelow total_limit)
  row_over-below rs few =
      elim (length (standing rs) == 0) as
      (λ b. IfSome (cond b None (Some (row_of contests s q.contest (standing rs))))
      (IsBelow total_limit)) [
        | true ↦ tt
        | false ↦ row_below (standing rs) (let le = few_stand rs in omega (arith, le, few))
      ]

  pub row_over-grows : (rs : List RecordName) → length rs < ballot_limit
      → IfSome (row_over contests s q rs) CanGrow
  row_over-grows rs few =
      let le = few_stand rs in
      elim (length (standing rs) == 0) as
      (λ b. IfSome (cond b None (Some (row_of contests s q.contest (standing rs)))) CanGrow) [
        | true ↦ tt
        | false ↦ record {
          ballots = let one = row_few (standing rs) in omega (arith, one, le, few);
          columns = row_below (standing rs) (omega (arith, le, few));
        }
      ]
