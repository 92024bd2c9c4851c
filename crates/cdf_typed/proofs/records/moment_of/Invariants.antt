use Rattle.std.proofs.Common.{◌≡◌, map, drop}
use Rattle.std.specs.Ordering.{int_cmp}
use Rattle.std.specs.List.{filter_map}
use Rattle.cdf_node.specs.View.{view}
use Rattle.cdf_typed.specs.Greatest.{max_by}
use Rattle.cdf_typed.specs.Instants.{later}
use Rattle.cdf_typed.specs.Typed.{instant_in, moment_of}
use Rattle.cdf_typed.proofs.records.moment_of.Given as goal

-- the latest so far and those of the annotations that are left
abbrev pub invariant-loop-annotation : goal.invariant-loop-annotation
invariant-loop-annotation l = later l.latest
    (max_by int_cmp (filter_map instant_in (map view (drop l.annotation-index l.annotation-items))))
    ≡ moment_of (view l.snapshot)
