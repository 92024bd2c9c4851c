use Rattle.std.proofs.Common.{rules, arith}
use Rattle.cdf_check.proofs.Judging.{answered}
use Rattle.cdf_definition.proofs.Lemmas.{value_of_text}
use Rattle.cdf_check.proofs.read.check_file.Goals as goal

pub returns-in-Ok-Some : goal.returns-in-Ok-Some
returns-in-Ok-Some g c =
    let h = rw c.in-Ok-Some.field-0-is at c.in-Ok-Some.ensures in
    let value = value_of_text c.args.bytes.now c.in_ok-text.text.now h.0 (search rules)
    (search rules) h.1 in
    answered _ c.args.definition.now c.args.bytes.now h.0 (grind arith, value) c.judge.result
    (c.judge.ensures h.0 h.1)
