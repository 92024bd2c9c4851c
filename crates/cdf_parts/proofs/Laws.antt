-- What proofs of other crates may cite: each is a clause of one of this crate's functions, which
-- has the statement.
pub use Rattle.cdf_parts.proofs.Lengths.{items_short, part_short}
pub use Rattle.cdf_parts.proofs.Lists.{array_proper, list_of-items_of}
pub use Rattle.cdf_parts.proofs.PartLaws.{item_proper, listed_part, listed_reads_back}
pub use Rattle.cdf_parts.proofs.PartLaws.{member_proper, part_of_part, part_proper, part_reads_back}
pub use Rattle.cdf_parts.proofs.PartLaws.{proper_deeper}
pub use Rattle.cdf_parts.proofs.ReadsBack.{read-proper, same_text}
pub use Rattle.cdf_parts.proofs.Removing.{gone, others_stay, put_proper, whole-without, without-put}
pub use Rattle.cdf_parts.proofs.Removing.{without_proper, without_well}
pub use Rattle.cdf_parts.proofs.WasRead.{proper_read}
pub use Rattle.cdf_parts.proofs.Whole.{whole_array, whole_there}
