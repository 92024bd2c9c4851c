-- What proofs of other crates may cite besides its laws: facts on lists, truth values and orders,
-- and ways of computing.
pub use Rattle.cvr_lists.proofs.Highest.{equal_both}
pub use Rattle.cvr_lists.proofs.Insertions.{search_is, AreThere, put_none, put_nothing, set_both}
pub use Rattle.cvr_lists.proofs.Lifting.{last_greatest, none_last, rises-filter_map}
pub use Rattle.cvr_lists.proofs.NameRuns.{all_of}
pub use Rattle.cvr_lists.proofs.NameSteps.{most-cons}
pub use Rattle.cvr_lists.proofs.PlainLists.{none_rise}
pub use Rattle.cvr_lists.proofs.RunSteps.{header_passed, last_taken}
pub use Rattle.cvr_lists.proofs.SameFacts.{pointwise-on}
pub use Rattle.cvr_lists.proofs.WholeRecord.{own_record}
