-- What proofs of other crates may cite: each is a clause of one of this crate's functions, which
-- has the statement.
pub use Rattle.cvr_run.proofs.Members.{by_bytes, same_held}
pub use Rattle.cvr_run.proofs.Merging.{whole_volume}
