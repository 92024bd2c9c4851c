use Rattle.std.proofs.Common.{◌≡◌, take, map}
use Rattle.cdf_node.specs.View.{view}
use Rattle.cdf_typed.specs.Typed.{snapshot_of}
use Rattle.cdf_typed.proofs.records.read_snapshots.Given as goal

abbrev pub invariant-loop-value : goal.invariant-loop-value
invariant-loop-value l =
    l.snapshots.items ≡ map (snapshot_of l.contests) (map view (take l.value-index l.values))
