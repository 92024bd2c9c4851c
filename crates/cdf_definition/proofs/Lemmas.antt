-- What proofs of other crates may cite besides its laws: facts on lists, truth values and orders,
-- and ways of computing.
pub use Rattle.cdf_definition.proofs.Accepting.{either, file_holds, none_right, unmapped}
pub use Rattle.cdf_definition.proofs.ById.{by_id-put, frame_of-put, frame_put, keys_rise}
pub use Rattle.cdf_definition.proofs.Empty.{all_items, at_head, at_tail, inner, left_nil, right_nil}
pub use Rattle.cdf_definition.proofs.Empty.{unless_nil, both_nil}
pub use Rattle.cdf_definition.proofs.Items.{first_below, first_or}
pub use Rattle.cdf_definition.proofs.Kept.{differ}
pub use Rattle.cdf_definition.proofs.Reports.{election_is, election_listed}
pub use Rattle.cdf_definition.proofs.Resting.{array_same}
pub use Rattle.cdf_definition.proofs.Texts.{value_of_text, ascii_value, ascii, all_ascii}
