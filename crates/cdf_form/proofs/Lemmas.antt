-- What proofs of other crates may cite besides its laws: facts on lists, truth values and orders,
-- and ways of computing.
pub use Rattle.cdf_form.proofs.FormLaw.{left_nil, right_nil}
pub use Rattle.cdf_form.proofs.FormParts.{class_of_group, some_of}
pub use Rattle.cdf_form.proofs.Parts.{first-under}
