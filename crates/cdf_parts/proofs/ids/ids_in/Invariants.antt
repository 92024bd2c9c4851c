use Rattle.std.proofs.Common.{◌≡◌, take, map}
use Rattle.cdf_node.specs.View.{view}
use Rattle.cdf_parts.specs.Parts.{id_of}
use Rattle.cdf_parts.specs.Ids.{bytes_of}
use Rattle.cdf_parts.proofs.ids.ids_in.Given as goal

abbrev pub invariant-loop-item : goal.invariant-loop-item
invariant-loop-item l = bytes_of l.ids.items ≡ map id_of (map view (take l.item-index l.items))
