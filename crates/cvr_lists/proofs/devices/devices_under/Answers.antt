use Rattle.std.proofs.Common.{rules}
use Rattle.std.proofs.lemmas.List.{take_rest}
use Rattle.std.proofs.lemmas.List.Sorted.{IsPartitionPoint-from_clause}
use Rattle.cvr_lists.proofs.DeviceBodies.{device_below, below_parted, up_to_own, up_to_parted}
use Rattle.cvr_lists.proofs.DeviceBodies.{bodies_between}
use Rattle.cvr_lists.proofs.devices.devices_under.Goals as goal

pub returns : goal.returns
returns c =
    let xs = c.args.facts.now in
    let id = c.args.id.now in
    let i = c.partition_point-start.result in
    let is = take_rest xs i in
    let start = IsPartitionPoint-from_clause (device_below id) xs i
    c.partition_point-start.ensures.partitioned (below_parted id xs c.requires)
    (λ a r q k. search rules) in
    let end =
    IsPartitionPoint-from_clause (up_to_own id xs c.requires) _ c.partition_point-end.result
    c.partition_point-end.ensures.partitioned (up_to_parted id xs c.requires _ i is)
    (λ a r q k. search rules)
    in
    bodies_between id xs c.requires _ i is c.partition_point-end.result start end
