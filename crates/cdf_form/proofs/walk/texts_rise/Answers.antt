use Rattle.std.proofs.Common.{rules}
use Rattle.std.proofs.lemmas.Fn.{always_returns_same}
use Rattle.cdf_form.proofs.Rising.{in_turn, rise_answer}
use Rattle.cdf_form.proofs.walk.texts_rise.Goals as goal

pub returns : goal.returns
returns c =
    rise_answer c.args.items.now c.args.key c.is_sorted_by.result
    (c.is_sorted_by.ensures.cases (in_turn c.args.key)
    (always_returns_same _ _ _ (λ a r f' called. search rules)))
