-- What proofs of other crates may cite besides its laws: facts on lists, truth values and orders,
-- and ways of computing.
pub use Rattle.cvr_report.proofs.GivenVolume.{volume-given, volumes-given}
pub use Rattle.cvr_report.proofs.Kept.{unreversed}
pub use Rattle.cvr_report.proofs.Pieces.{some_prefix, appended_none}
pub use Rattle.cvr_report.proofs.Report.{volume_text}
