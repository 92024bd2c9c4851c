use Rattle.std.proofs.Common.{rules, ◌∙◌}
use Rattle.cvr_words.proofs.Numbers.{parsed}
use Rattle.cvr_words.proofs.number.read_number.Goals as goal

pub returns : goal.returns
returns c = c.ok.ensures.value ∙ parsed c.args.text.now c.parse.result (search rules) (search rules)
    (search rules) c.parse.ensures.value.0
