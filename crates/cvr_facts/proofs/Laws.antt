-- What proofs of other crates may cite: each is a clause of one of this crate's functions, which
-- has the statement.
pub use Rattle.cvr_facts.proofs.Bounds.{AreInRange-from_snapshot}
pub use Rattle.cvr_facts.proofs.ByPlace.{each_once, in_order}
pub use Rattle.cvr_facts.proofs.Choosing.{bodies, choice_exact, choice_total, current, fact_total}
pub use Rattle.cvr_facts.proofs.Choosing.{text_exact, text_total}
pub use Rattle.cvr_facts.proofs.Columns.{sums_of_are_below}
pub use Rattle.cvr_facts.proofs.Records.{Contains-header_bodies, Contains-snapshot_bodies}
pub use Rattle.cvr_facts.proofs.Records.{contains_iff}
pub use Rattle.cvr_facts.proofs.Sources.{device_listed, fact_held, fact_source, header_listed}
pub use Rattle.cvr_facts.proofs.Sources.{snapshot_listed}
pub use Rattle.cvr_facts.proofs.Spelled.{spelled_told}
