use Rattle.std.proofs.Common.{refl, rules}
use Rattle.std.specs.Ordering.{is_lt, is_eq}
use Rattle.std.proofs.lemmas.List.Sorted.{IsPartitionPoint-from_clause}
use Rattle.cvr_office.specs.Runs.{record_order}
use Rattle.cvr_lists.proofs.Between.{lesser_first, equal_first, run_is}
use Rattle.cvr_office.proofs.Lemmas.{record_order_rises}
use Rattle.cvr_lists.proofs.records.run_of.Goals as goal

pub returns : goal.returns
returns c =
    let facts = c.args.facts.now in
    let order = record_order c.args.key.now in
    let up = record_order_rises facts c.requires c.args.key.now in
    let start = IsPartitionPoint-from_clause (λ y. is_lt (order y)) _ _
    c.partition_point-start.ensures.partitioned (lesser_first order facts up)
    (λ a r q k. search rules) in
    let bound = c.partition_point-start.ensures.bound in
    let equal = equal_first order facts up _ bound start _ refl in
    let found = IsPartitionPoint-from_clause (λ y. is_eq (order y)) _ _
    c.partition_point-end.ensures.partitioned equal (λ a r q k. search rules) in
    run_is order facts up _ bound start _ refl _ c.partition_point-end.ensures.bound found
