-- What proofs of other crates may cite besides its laws: facts on lists, truth values and orders,
-- and ways of computing.
pub use Rattle.cdf_parts.proofs.Appending.{append}
pub use Rattle.cdf_parts.proofs.Order.{Before-trans, after_is, equal_is, greater_is}
pub use Rattle.cdf_parts.proofs.PartLaws.{found_at, item_in_list}
pub use Rattle.cdf_parts.proofs.Places.{known_place, length-bytes_of}
pub use Rattle.cdf_parts.proofs.WasRead.{Within-map, Within-and_then, Within}
