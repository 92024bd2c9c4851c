use Rattle.cdf_node.specs.View.{view}
use Rattle.cdf_check.proofs.Listed.{settles_rest, told_as}
use Rattle.cdf_check.proofs.judge.is_accepted.Goals as goal

pub returns-then-has_lists : goal.returns-then-has_lists
returns-then-has_lists g c =
    rw c.in-Right.is (told_as c.rest_settles.result
    (settles_rest c.args.definition.now (view c.args.left.now) (c.if-has_lists.ensures) c.requires
    c.in-Right.names) c.rest_settles.ensures)
