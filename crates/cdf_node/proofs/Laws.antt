-- What proofs of other crates may cite: each is a clause of one of this crate's functions, which
-- has the statement.
pub use Rattle.cdf_node.proofs.Sorting.{sorted_next}
