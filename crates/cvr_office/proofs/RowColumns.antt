-- The row of some records, and of one more.
use Rattle.std.proofs.Common.{◌≡◌, ℕ, ◌+◌, List, [], ◌∷◌, ◌++◌, length, Some, refl, sym, ap, ◌∙◌}
use Rattle.std.specs.Option.{option_map_or}
use Rattle.std.proofs.lemmas.List.Sums.{sum_by_push}
use Rattle.cdf_parts.specs.Places.{Contest, selections_at}
use Rattle.cvr_fact_types.specs.declared.name.RecordName.{RecordName}
use Rattle.cvr_fact_types.specs.declared.sums.VoteSums.{VoteSums}
use Rattle.cvr_fact_types.specs.Columns.{Column, worth}
use Rattle.cvr_fact_types.specs.Facts.{Facts}
use Rattle.cvr_tally.specs.Rows.{zero_row, row_plus}
use Rattle.cvr_tally.proofs.Lemmas.{row_by-same, row_plus-row_by}
use Rattle.cvr_office.specs.Tallied.{sums_at, column_over, row_of}

module _ (contests : List Contest) (s : Facts) (c : ℕ) where
  pub row_of-none : row_of contests s c [] ≡ zero_row (length (selections_at contests c))
  row_of-none = refl

  module _ (rs : List RecordName) (r : RecordName) (v : VoteSums)
      (is : sums_at contests s c r ≡ Some v) where
    column_more : (column : Column) → column_over contests s c (rs ++ r ∷ []) column
        ≡ column_over contests s c rs column + worth column v
    column_more column =
        sum_by_push (λ r. option_map_or (worth column) (sums_at contests s c r) 0) rs r
        ∙ ap (λ o. column_over contests s c rs column + option_map_or (worth column) o 0) is

    pub row_of-more : row_of contests s c (rs ++ r ∷ []) ≡ row_plus (row_of contests s c rs) v
    row_of-more =
        let n = length (selections_at contests c) in
        row_by-same n _ _ (λ column here. column_more column)
        ∙ sym (row_plus-row_by n (column_over contests s c rs) v)
