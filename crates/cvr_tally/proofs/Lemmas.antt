-- What proofs of other crates may cite besides its laws: facts on lists, truth values and orders,
-- and ways of computing.
pub use Rattle.cvr_tally.proofs.Given.{entries-given, placed}
pub use Rattle.cvr_tally.proofs.Columns.{same_row, length-row_by, length-zero_row, number_in-row_by}
pub use Rattle.cvr_tally.proofs.Columns.{number_in-row_by-le, row_by-same, number_in-zero_row}
pub use Rattle.cvr_tally.proofs.Columns.{row_plus-row_by, number_in-row_plus, number_in-row_minus}
pub use Rattle.cvr_tally.proofs.Columns.{below_limits}
pub use Rattle.cvr_tally.proofs.Kept.{is_key-same}
