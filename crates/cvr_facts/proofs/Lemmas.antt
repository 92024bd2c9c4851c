-- What proofs of other crates may cite besides its laws: facts on lists, truth values and orders,
-- and ways of computing.
pub use Rattle.cvr_facts.proofs.Bools.{tie_decides, tie_is, tie_itself}
pub use Rattle.cvr_facts.proofs.Gathering.{tied}
pub use Rattle.cvr_facts.proofs.Greatest.{greatest_is, has_greatest, is_greatest, gt_back}
pub use Rattle.cvr_facts.proofs.Members.{at_head, at_tail, from_flat, from_map, from_set, passes_by}
pub use Rattle.cvr_facts.proofs.Members.{head_or_tail, in_flat, in_map, in_set, none_listed}
pub use Rattle.cvr_facts.proofs.Members.{one_listed, same_from_list, one_that_passes, only_one}
pub use Rattle.cvr_facts.proofs.Ordered.{list_any-keys_in_order, keys_in_order-same, ordered_rises}
pub use Rattle.cvr_facts.proofs.Records.{Contains-filter_map, from-filter_map, of_name}
pub use Rattle.cvr_facts.proofs.SameLists.{same_lists_of_members}
pub use Rattle.cvr_facts.proofs.Sorted.{IsSorted-strict, from_list-append}
pub use Rattle.cvr_facts.proofs.WorkedFiles.{value_in-ascii}
