use Rattle.std.proofs.Common.{◌≡◌, ◌+◌, ◌≤◌, List, length}
use Rattle.serde_json.specs.Data.{Data}
use Rattle.cdf_node.specs.Loops.{InArray}
use Rattle.cdf_pull.proofs.fold.fold_items.Given as goal

abbrev pub invariant-items : goal.invariant-items
invariant-items g l = record {
  ds : List Data;
  place : l.place ≡ length ds;
  room : length ds + length l.reader ≤ length l.initial.reader;
  read : InArray l.depth l.initial.reader ds l.reader;
  keeps : g.F.Fold.keeps l.fold ds l.kept;
}

abbrev pub decreases-items : goal.decreases-items
decreases-items g l = length l.reader
