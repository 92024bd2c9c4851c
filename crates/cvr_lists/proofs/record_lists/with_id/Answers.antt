use Rattle.std.proofs.Common.{refl, rules}
use Rattle.std.specs.Ordering.{is_lt, is_eq}
use Rattle.std.proofs.lemmas.List.Sorted.{IsPartitionPoint-from_clause}
use Rattle.cvr_lists.specs.Groups.{id_order}
use Rattle.cvr_lists.proofs.Between.{lesser_first, equal_first, run_is}
use Rattle.cvr_lists.proofs.Groups.{id_order_rises}
use Rattle.cvr_lists.proofs.record_lists.with_id.Goals as goal

pub returns : goal.returns
returns c =
    let run = c.args.run.now in
    let order = id_order c.args.id.now in
    let up = id_order_rises run c.requires c.args.id.now in
    let start = IsPartitionPoint-from_clause (λ y. is_lt (order y)) _ _
    c.partition_point-start.ensures.partitioned (lesser_first order run up)
    (λ a r q k. search rules) in
    let bound = c.partition_point-start.ensures.bound in
    let equal = equal_first order run up _ bound start _ refl in
    let found = IsPartitionPoint-from_clause (λ y. is_eq (order y)) _ _
    c.partition_point-end.ensures.partitioned equal (λ a r q k. search rules) in
    run_is order run up _ bound start _ refl _ c.partition_point-end.ensures.bound found
