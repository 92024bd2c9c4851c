use Rattle.std.proofs.Common.{◌≡◌, ◌<◌, get_or, length, sym, rules}
use Rattle.cvr_facts.proofs.gather.snapshots_in.Goals as goal

pub add_snapshots-requires : goal.add_snapshots-requires
add_snapshots-requires c =
    let cvrs = c.args.cvrs.now in
    let i = c.loop-cvr.cvr-index in
    let lt : i < length cvrs = search rules in
    let is : c.cvr-item.result ≡ get_or cvrs i c.cvr-item.result = search rules in
    c.requires c.cvr-item.result (i, lt, sym is)
