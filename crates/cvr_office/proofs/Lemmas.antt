-- What proofs of other crates may cite besides its laws: facts on lists, names among facts, truth
-- values and orders, and ways of computing.
pub use Rattle.std.proofs.lemmas.Bool.{or_cases, or_left, or_right}
pub use Rattle.cvr_office.proofs.FileRecords.{records_whole}
pub use Rattle.cvr_office.proofs.GivenFacts.{conflicts-given, current-given, records-given, sorted}
pub use Rattle.cvr_office.proofs.GivenFacts.{tally-given, keys_in_order-is}
pub use Rattle.cvr_office.proofs.InOrder.{from_ordered, in_ordered, map-map, keys_in_order-members}
pub use Rattle.cvr_office.proofs.InOrder.{rises-distinct}
pub use Rattle.cvr_office.proofs.NameOrder.{Reaches, bodies_less, has_own_name, name_is}
pub use Rattle.cvr_office.proofs.NameOrder.{names_reach, not_below}
pub use Rattle.cvr_office.proofs.NewOffices.{start_itself, start_before_file}
pub use Rattle.cvr_office.proofs.NextInFacts.{device_passes, device_up, devices_parted}
pub use Rattle.cvr_office.proofs.NextInFacts.{next_device_none, next_device_some, next_record_none}
pub use Rattle.cvr_office.proofs.NextInFacts.{next_record_some, record_passes, record_up}
pub use Rattle.cvr_office.proofs.NextInFacts.{records_parted}
pub use Rattle.cvr_office.proofs.NextNames.{from_given, from_items, in_given, in_items}
pub use Rattle.cvr_office.proofs.NextNames.{keys_in_order-given}
pub use Rattle.cvr_office.proofs.Reached.{at_eq, is_eq, origin_exact, origin_total}
pub use Rattle.cvr_office.proofs.RecordMembers.{from_filter, from_headers, from_snapshots}
pub use Rattle.cvr_office.proofs.RecordMembers.{header_held, held_header, held_snapshot, in_filter}
pub use Rattle.cvr_office.proofs.RecordMembers.{of_snapshot, own_name, past_key, same_name}
pub use Rattle.cvr_office.proofs.RecordMembers.{snapshot_held, of_header}
pub use Rattle.cvr_office.proofs.Rising.{from_union, growth_is, in_union, len-from_list, len-union}
pub use Rattle.cvr_office.proofs.Rising.{put_in, set_is, less_alone, each_of}
pub use Rattle.cvr_office.proofs.RowSteps.{found, row_over-more, sums_there, passed}
pub use Rattle.cvr_office.proofs.RowSums.{sums_in_place}
pub use Rattle.cvr_office.proofs.RowsOfKeys.{added_sums-no_current, added_sums-no_header, added_is}
pub use Rattle.cvr_office.proofs.Runs.{not_before, record_order_rises, records_rise}
pub use Rattle.cvr_office.proofs.Slots.{growth-itself}
pub use Rattle.cvr_office.proofs.Standing.{facts_stand}
pub use Rattle.cvr_office.proofs.Unions.{contains-union_over, over_insert, over_union, tie_is}
pub use Rattle.cvr_office.proofs.Upward.{none_last, first_not_gt}
pub use Rattle.cvr_office.proofs.ViewedLists.{map-dedup, map-reverse, pushed, pushed_cases}
pub use Rattle.cvr_office.proofs.ViewedLists.{sorted-map}
pub use Rattle.cvr_office.proofs.Walks.{from, from-next_none, from-some, next_listed}
