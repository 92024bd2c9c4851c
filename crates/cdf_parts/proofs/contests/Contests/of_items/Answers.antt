use Rattle.std.proofs.Common.{map}
use Rattle.cdf_node.specs.View.{view}
use Rattle.cdf_parts.proofs.ContestLists.{zip-map}
use Rattle.cdf_parts.proofs.contests.Contests.of_items.Goals as goal

pub returns : goal.returns
returns c = rw (c.in_ok-of_items.ensures, c.in_ok-selections_in.ensures)
    (zip-map (map view c.args.items.now))
