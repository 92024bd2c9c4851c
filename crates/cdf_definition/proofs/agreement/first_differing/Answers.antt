use Rattle.std.proofs.Common.{◌≡◌, ◌<◌, false, get_or, length, map, ap, ◌∙◌, rules}
use Rattle.std.specs.List.{list_any}
use Rattle.cdf_node.specs.View.{view}
use Rattle.serde_json.specs.Written.{has_float}
use Rattle.cdf_parts.proofs.Laws.{whole_array, whole_there}
use Rattle.cdf_definition.proofs.agreement.first_differing.Goals as goal

pub agrees-requires : goal.agrees-requires
agrees-requires c =
    let vs = c.items_at-item-items.result.now in
    let lt : c.loop-place.place < length vs = search rules in
    let is : c.item-item.result ≡ get_or vs c.loop-place.place c.item-item.result = search rules in
    let whole : list_any has_float (map view vs)
    ≡ false = ap (list_any has_float) c.items_at-item-items.ensures
    ∙ whole_array (view c.args.value.now) c.args.name.now c.requires in
    whole_there vs c.loop-place.place c.item-item.result lt is whole
