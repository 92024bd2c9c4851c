-- What proofs of other crates may cite: each is a clause of one of this crate's functions, which
-- has the statement.
pub use Rattle.cdf_definition.proofs.Accepting.{sound_file, valid_file, value_law}
pub use Rattle.cdf_definition.proofs.Agreeing.{agreement}
pub use Rattle.cdf_definition.proofs.ById.{by_id_law}
pub use Rattle.cdf_definition.proofs.Depths.{listed_proper, report_proper, was_read}
pub use Rattle.cdf_definition.proofs.Kept.{is_kept}
pub use Rattle.cdf_definition.proofs.Reports.{has_id, one_election, report_entry}
pub use Rattle.cdf_definition.proofs.Resting.{rest_law, rest_of_report}
pub use Rattle.cdf_definition.proofs.Resolving.{cvr_law, references, snapshot_law}
pub use Rattle.cdf_definition.proofs.Sounding.{sound}
