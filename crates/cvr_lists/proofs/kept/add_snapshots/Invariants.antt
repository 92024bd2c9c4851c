use Rattle.std.proofs.Common.{◌≡◌, ◌++◌, take, map}
use Rattle.cvr_lists.specs.Kept.{snapshot_stated}
use Rattle.cvr_lists.proofs.kept.add_snapshots.Given as goal

abbrev pub invariant-loop-snapshot : goal.invariant-loop-snapshot
invariant-loop-snapshot l = l.facts.items
    ≡ l.fn.facts.items ++ map (snapshot_stated l.contests l.key) (take l.snapshot-index l.snapshots)
