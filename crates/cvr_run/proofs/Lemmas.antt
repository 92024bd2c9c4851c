-- What proofs of other crates may cite besides its laws: facts on lists, and ways of computing.
pub use Rattle.cvr_run.proofs.Accepted.{text_beside}
pub use Rattle.cvr_run.proofs.GivenDrills.{facts-given, of_one_file, starts-given, three_devices}
pub use Rattle.cvr_run.proofs.GivenTexts.{currents-given}
pub use Rattle.cvr_run.proofs.GivenValues.{same_values}
