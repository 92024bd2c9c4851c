use Rattle.std.proofs.Common.{◌≡◌, ◌<◌, get_or, length, rules}
use Rattle.cdf_parts.proofs.Laws.{whole_there}
use Rattle.cdf_typed.proofs.records.read_snapshots.Goals as goal

pub read_snapshot-requires : goal.read_snapshot-requires
read_snapshot-requires c =
    let vs = c.args.values.now in
    let i = c.loop-value.value-index in
    let v = c.value-item.result in
    let lt : i < length vs = search rules in
    let is : v ≡ get_or vs i v = search rules in
    whole_there vs i v lt is c.requires
