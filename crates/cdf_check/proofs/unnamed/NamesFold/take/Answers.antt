use Rattle.std.proofs.Common.{arith}
use Rattle.cdf_node.specs.View.{view}
use Rattle.cdf_definition.specs.References.{in_cvr}
use Rattle.cdf_definition.specs.Scoped.{scope_view}
use Rattle.cdf_check.proofs.OneMore.{place_next}
use Rattle.cdf_check.proofs.unnamed.NamesFold.take.Goals as goal

pub returns-in_ok-found : goal.returns-in_ok-found
returns-in_ok-found c ds at h = let next = place_next ds (view c.args.item) c.args.place at
    (in_cvr (scope_view c.args.self.now.0.now)) in grind (arith, next, h, c.in_ok-found.ensures)

pub returns-else-is_none : goal.returns-else-is_none
returns-else-is_none c ds at h = let next = place_next ds (view c.args.item) c.args.place at
    (in_cvr (scope_view c.args.self.now.0.now)) in grind (arith, next, h)
