use Rattle.std.proofs.Common.{◌+◌, ◌*◌, length, map}
use Rattle.serde_json.specs.Data.{array, object}
use Rattle.cdf_node.specs.View.{view, items_view}
use Rattle.cdf_node.specs.Whole.{IsNoted}
use Rattle.cdf_node.specs.Order.{in_order}
use Rattle.cdf_node.specs.Loops.{InArray, InObject}
use Rattle.cdf_node.proofs.value.+value.Given as goal

abbrev pub decreases-read : goal.decreases-read
decreases-read l = 2 * l.depth + 1

abbrev pub decreases-read_array : goal.decreases-read_array
decreases-read_array l = 2 * l.depth

abbrev pub decreases-read_object : goal.decreases-read_object
decreases-read_object l = 2 * l.depth

abbrev pub invariant-read_array-items : goal.invariant-read_array-items
invariant-read_array-items l = record {
  reads : InArray l.depth l.initial.reader (map view l.items.items) l.reader;
  whole : IsNoted l.initial.track.fraction l.track.fraction (array (items_view l.items.items));
}

abbrev pub decreases-read_array-items : goal.decreases-read_array-items
decreases-read_array-items l = length l.reader

abbrev pub invariant-read_object-members : goal.invariant-read_object-members
invariant-read_object-members l = record {
  reads : InObject l.depth l.initial.reader (in_order l.found.items) l.reader;
  whole : IsNoted l.initial.track.fraction l.track.fraction (object (in_order l.found.items));
}

abbrev pub decreases-read_object-members : goal.decreases-read_object-members
decreases-read_object-members l = length l.reader
