use Rattle.std.proofs.Common.{arith}
use Rattle.std.specs.Prelude.{string_bytes}
use Rattle.cdf_check.proofs.NamedTexts.{one_more}
use Rattle.cdf_check.proofs.text_set.TextSet.add.Goals as goal

pub returns : goal.returns
returns c s =
    let more = one_more c.self.inside.texts c.insert.new.self
    (string_bytes c.in_ok-from_str.field-0) c.in_ok-insert.ensures.updates s in
    grind (arith, more)
