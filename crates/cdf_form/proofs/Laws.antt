-- What proofs of other crates may cite: each is a clause of one of this crate's functions, which
-- has the statement.
pub use Rattle.cdf_form.proofs.FormLaw.{fits_of, no_faults}
pub use Rattle.cdf_form.proofs.FormParts.{count_form, has_class, is_an_array, is_object}
pub use Rattle.cdf_form.proofs.FormParts.{items_are_apart, items_are_few, items_are_some}
pub use Rattle.cdf_form.proofs.FormParts.{items_have_form, listed_is_among, may_be_text}
pub use Rattle.cdf_form.proofs.FormParts.{moment_is_read, must_be_text, must_have_form}
pub use Rattle.cdf_form.proofs.FormParts.{must_text_in, only_class, entry_named, text_has_form}
pub use Rattle.cdf_form.proofs.Records.{records_apart, records_first}
pub use Rattle.cdf_form.proofs.Whole.{no_float_faults, whole_document, whole_of}
