-- What proofs of other crates may cite besides its laws: facts on lists, truth values and orders,
-- and ways of computing.
pub use Rattle.cdf_types.proofs.Fronts.{appended_twice}
