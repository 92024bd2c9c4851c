use Rattle.std.proofs.Common.{◌∙◌, ap₂}
use Rattle.std.proofs.lemmas.Result.{IfOk-weaker}
use Rattle.clap.specs.Words.{with_rule}
use Rattle.cvr_words.proofs.line.drill_command.Goals as goal

pub returns : goal.returns
returns c =
    let one = c.in_ok-arg.ensures.shape c.def_word.ensures.local
    ∙ ap₂ with_rule c.titled.ensures c.def_word.ensures.rule in
    let two = c.in_ok-arg-2.ensures.shape c.offices_word.ensures.local
    ∙ ap₂ with_rule one c.offices_word.ensures.rule in
    IfOk-weaker c.arg-3.result _ _ (λ r h. h.shape c.step_words.ensures.local
    ∙ ap₂ with_rule two c.step_words.ensures.rule) c.arg-3.ensures
