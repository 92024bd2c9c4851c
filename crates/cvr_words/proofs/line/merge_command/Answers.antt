use Rattle.std.proofs.Common.{◌∙◌, ap₂}
use Rattle.std.proofs.lemmas.Result.{IfOk-weaker}
use Rattle.clap.specs.Words.{with_rule}
use Rattle.cvr_words.proofs.line.merge_command.Goals as goal

pub returns : goal.returns
returns c =
    let one = c.in_ok-arg.ensures.shape c.def_word.ensures.local
    ∙ ap₂ with_rule c.titled.ensures c.def_word.ensures.rule in
    let two = c.in_ok-arg-2.ensures.shape c.date_word.ensures.local
    ∙ ap₂ with_rule one c.date_word.ensures.rule in
    let three = c.in_ok-arg-3.ensures.shape c.device_word.ensures.local
    ∙ ap₂ with_rule two c.device_word.ensures.rule in
    let four = c.in_ok-arg-4.ensures.shape c.volume_word.ensures.local
    ∙ ap₂ with_rule three c.volume_word.ensures.rule in
    IfOk-weaker c.arg-5.result _ _ (λ r h. h.shape c.file_words.ensures.local
    ∙ ap₂ with_rule four c.file_words.ensures.rule) c.arg-5.ensures
