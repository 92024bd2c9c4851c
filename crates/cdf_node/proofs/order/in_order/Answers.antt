use Rattle.std.proofs.Common.{arith}
use Rattle.std.proofs.lemmas.Cmp.{nat_list_cmp_total}
use Rattle.std.proofs.lemmas.List.Sorted.{answers_always, ranks_by}
use Rattle.cdf_node.proofs.Placing.{is_before}
use Rattle.cdf_node.proofs.Stable.{in_order-stable}
use Rattle.cdf_node.proofs.order.in_order.Goals as goal

pub returns : goal.returns
returns c =
    let stable = c.sort_by.ensures.stable is_before (ranks_by nat_list_cmp_total (λ e. e.0.now))
    (answers_always _ _ _ (λ f a r g called. grind (arith, called))) in
    rw (← in_order-stable _ _ stable) c.last_of_each.ensures
