use Rattle.std.proofs.Common.{arith}
use Rattle.std.proofs.lemmas.List.Sorted.{answers_always}
use Rattle.cdf_node.proofs.Placing.{is_before, rises_answer}
use Rattle.cdf_node.proofs.order.rises.Goals as goal

pub returns : goal.returns
returns c =
    rises_answer c.args.members.now c.is_sorted_by.result
    (c.is_sorted_by.ensures.cases is_before
    (answers_always _ _ _ (λ f a r g called. grind (arith, called))))
