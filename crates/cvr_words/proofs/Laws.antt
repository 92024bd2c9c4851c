-- What proofs of other crates may cite: each is a clause of one of this crate's functions, which
-- has the statement.
pub use Rattle.cvr_words.proofs.OneRequest.{no_line_fault_but_memory, one_request}
