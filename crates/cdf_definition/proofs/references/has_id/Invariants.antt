use Rattle.std.proofs.Common.{◌≡◌, drop, map, bytes_eq}
use Rattle.std.specs.List.{list_any}
use Rattle.cdf_node.specs.View.{view}
use Rattle.cdf_parts.specs.Parts.{id_of}
use Rattle.cdf_definition.proofs.references.has_id.Given as goal

abbrev pub invariant-loop-item : goal.invariant-loop-item
invariant-loop-item l = list_any (bytes_eq l.id) (map id_of (map view (drop l.item-index l.items)))
    ≡ list_any (bytes_eq l.id) (map id_of (map view l.items))
