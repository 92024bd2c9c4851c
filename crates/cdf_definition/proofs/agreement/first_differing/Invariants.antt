use Rattle.std.proofs.Common.{◌≡◌, drop, map}
use Rattle.cdf_node.specs.View.{view}
use Rattle.cdf_parts.specs.Parts.{array_at}
use Rattle.cdf_form.specs.Form.{first}
use Rattle.cdf_definition.specs.Paths.{below_each}
use Rattle.cdf_definition.specs.Agreement.{differing_paths}
use Rattle.cdf_definition.proofs.agreement.first_differing.Given as goal

abbrev pub invariant-loop-place : goal.invariant-loop-place
invariant-loop-place l = first (below_each (differing_paths l.known)
    (map view (drop l.place l.item-items)) l.place)
    ≡ first (below_each (differing_paths l.known) (array_at l.name (view l.value)) 0)
