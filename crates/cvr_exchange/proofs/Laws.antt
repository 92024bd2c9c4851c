-- What proofs of other crates may cite: each is a clause of one of this crate's functions, which
-- has the statement.
pub use Rattle.cvr_exchange.proofs.AllVolumes.{any_order}
pub use Rattle.cvr_exchange.proofs.Valid.{valid}
