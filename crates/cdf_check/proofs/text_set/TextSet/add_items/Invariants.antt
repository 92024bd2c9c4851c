use Rattle.std.proofs.Common.{◌++◌, drop, map}
use Rattle.std.specs.List.{filter_map}
use Rattle.serde_json.specs.Find.{as_str}
use Rattle.cdf_node.specs.View.{view}
use Rattle.cdf_check.specs.Within.{SameTexts}
use Rattle.cdf_check.proofs.text_set.TextSet.add_items.Given as goal

abbrev pub invariant-loop-item : goal.invariant-loop-item
invariant-loop-item l = SameTexts (l.self
    ++ filter_map as_str (map view (drop l.item-index l.items)))
    (l.initial.self ++ filter_map as_str (map view l.items))
