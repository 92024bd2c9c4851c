use Rattle.std.proofs.Common.{◌≡◌, ◌<◌, get_or, length, sym, rules}
use Rattle.cvr_facts.proofs.gather.add_snapshots.Goals as goal

pub snapshot_of-requires : goal.snapshot_of-requires
snapshot_of-requires c =
    let snapshots = c.args.cvr.now.snapshots in
    let i = c.loop-snapshot.snapshot-index in
    let lt : i < length snapshots = search rules in
    let is : c.snapshot-item.result ≡ get_or snapshots i c.snapshot-item.result = search rules in
    c.requires c.snapshot-item.result (i, lt, sym is)
