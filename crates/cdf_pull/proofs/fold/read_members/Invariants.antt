use Rattle.std.proofs.Common.{◌≡◌, length}
use Rattle.serde_json.specs.Data.{Members}
use Rattle.serde_json.specs.Find.{get_member}
use Rattle.cdf_node.specs.Loops.{InObject}
use Rattle.cdf_node.specs.Order.{in_order}
use Rattle.cdf_pull.specs.Fold.{emptied_at, items_found}
use Rattle.cdf_pull.proofs.fold.read_members.Given as goal

abbrev pub invariant-members : goal.invariant-members
invariant-members g l = record {
  ms : Members;
  read : InObject l.depth l.initial.reader ms l.reader;
  left : in_order l.found.items ≡ emptied_at l.name ms;
  keeps : g.F.Fold.keeps l.fold (items_found (get_member l.name ms)) l.kept;
}

abbrev pub decreases-members : goal.decreases-members
decreases-members g l = length l.reader
