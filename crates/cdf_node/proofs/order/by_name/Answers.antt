use Rattle.std.proofs.Common.{arith}
use Rattle.cdf_node.proofs.Placing.{placed_more}
use Rattle.cdf_node.proofs.order.by_name.Goals as goal

pub members-preserved : goal.members-preserved
members-preserved c = placed_more c.args.found.now c.members.member-index c.member-item.result
    c.members.placed.entries c.insert.new.self.entries (omega arith) c.member-item.is
    c.members.invariant c.in_ok-insert.ensures.entries
