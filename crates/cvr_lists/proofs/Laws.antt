-- What proofs of other crates may cite: each is a clause of one of this crate's functions, which
-- has the statement.
pub use Rattle.cvr_lists.proofs.ConflictLists.{conflicts-is, greatest_count-is}
pub use Rattle.cvr_lists.proofs.CurrentSums.{currents_are_sums, facts_are_sums}
pub use Rattle.cvr_lists.proofs.OneRecord.{current_is, header_is}
pub use Rattle.cvr_lists.proofs.PlainLists.{plain_start, spelled_put, start_is}
pub use Rattle.cvr_lists.proofs.RecordGroups.{rises_by_id}
pub use Rattle.cvr_lists.proofs.SameFacts.{same_facts}
pub use Rattle.cvr_lists.proofs.WholeRecord.{facts_are, none_of}
pub use Rattle.cvr_office.proofs.Lemmas.{added_sums-no_current, added_sums-no_header, added_is}
pub use Rattle.cvr_office.proofs.Lemmas.{name_is, records_rise, row_over-more, sums_there}
