-- What proofs of other crates may cite besides its laws: facts on lists, truth values and orders,
-- and ways of computing.
pub use Rattle.cdf_check.proofs.Apart.{listed_item, items_len-items_of}
pub use Rattle.cdf_check.proofs.Ascii.{ascii_refusal, ascii_unsound}
pub use Rattle.cdf_check.proofs.Listed.{listed_itself}
pub use Rattle.cdf_check.proofs.Spelling.{put_utf8}
