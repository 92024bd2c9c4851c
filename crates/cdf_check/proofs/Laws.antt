-- What proofs of other crates may cite: each is a clause of one of this crate's functions, which
-- has the statement.
pub use Rattle.cdf_check.proofs.Listing.{lists}
pub use Rattle.cdf_check.proofs.NoDefault.{report_read}
pub use Rattle.cdf_check.proofs.Ranges.{in_range}
pub use Rattle.cdf_check.proofs.SameDefinition.{one_definition, same_definitions}
pub use Rattle.cdf_check.proofs.SameElection.{contests_agree}
pub use Rattle.cdf_check.proofs.Spelling.{file_utf8}
pub use Rattle.cdf_check.proofs.Standing.{devices_stand, header_stays, headers_stand, more_devices}
pub use Rattle.cdf_check.proofs.Standing.{snapshot_stays, snapshots_stand}
pub use Rattle.cdf_check.proofs.Utf8.{bodies_utf8, part_utf8, proper_utf8}
pub use Rattle.cdf_check.proofs.Wider.{cvr_parts, each_at}
