-- What proofs of other crates may cite: each is a clause of one of this crate's functions, which
-- has the statement.
pub use Rattle.cvr_report.proofs.Kept.{headed, id_shows, shown_listed}
pub use Rattle.cvr_report.proofs.Picking.{shown_at}
pub use Rattle.cvr_report.proofs.SameVolumes.{same_volumes}
