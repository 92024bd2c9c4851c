use Rattle.std.proofs.Common.{◌≡◌, ◌++◌, take, map}
use Rattle.cvr_facts.specs.Lists.{stated_snapshot}
use Rattle.cvr_facts.proofs.gather.add_snapshots.Given as goal

abbrev pub invariant-loop-snapshot : goal.invariant-loop-snapshot
invariant-loop-snapshot l = l.facts.items
    ≡ l.fn.facts.items ++ map (stated_snapshot l.definition.contests l.cvr)
    (take l.snapshot-index l.cvr.snapshots)
