use Rattle.std.proofs.Common.{sym}
use Rattle.cvr_lists.proofs.kept.add_snapshots.Goals as goal

pub snapshot_in-requires-clause-whole : goal.snapshot_in-requires-clause-whole
snapshot_in-requires-clause-whole c = c.requires.whole c.snapshot-item.result (
  c.loop-snapshot.snapshot-index,
  c.loop-snapshot-test.true,
  sym
      c.snapshot-item.is,
)

pub snapshot_in-requires-clause-range : goal.snapshot_in-requires-clause-range
snapshot_in-requires-clause-range c = c.requires.range c.snapshot-item.result (
  c.loop-snapshot.snapshot-index,
  c.loop-snapshot-test.true,
  sym
      c.snapshot-item.is,
)
