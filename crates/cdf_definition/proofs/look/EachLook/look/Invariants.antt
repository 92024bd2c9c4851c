use Rattle.std.proofs.Common.{◌≡◌, drop, map}
use Rattle.cdf_node.specs.View.{view}
use Rattle.cdf_parts.specs.Parts.{array_at}
use Rattle.cdf_form.specs.Form.{first}
use Rattle.cdf_definition.specs.Paths.{below_each}
use Rattle.cdf_definition.proofs.look.EachLook.look.Given as goal

abbrev pub invariant-loop-place : goal.invariant-loop-place
invariant-loop-place g l = first (below_each (g.L.Look.missing l.self.0)
    (map view (drop l.place l.item-items)) l.place)
    ≡ first (below_each (g.L.Look.missing l.self.0) (array_at l.self.1.now (view l.value)) 0)
