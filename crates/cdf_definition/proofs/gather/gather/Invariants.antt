use Rattle.std.proofs.Common.{◌≡◌, take, map}
use Rattle.cdf_node.specs.View.{view}
use Rattle.cdf_definition.specs.Named.{id_and_text, by_id, map_entries}
use Rattle.cdf_definition.proofs.gather.gather.Given as goal

abbrev pub invariant-loop-item : goal.invariant-loop-item
invariant-loop-item l =
    map_entries l.texts.entries ≡ by_id (map id_and_text (map view (take l.item-index l.items)))
