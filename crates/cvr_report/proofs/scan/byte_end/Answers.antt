use Rattle.cvr_report.proofs.Steps.{inner_byte, escape_passed}
use Rattle.std.proofs.Common.{arith}
use Rattle.cvr_report.proofs.scan.byte_end.Goals as goal

pub returns-then-text-at-eq92-clause-rest : goal.returns-then-text-at-eq92-clause-rest
returns-then-text-at-eq92-clause-rest c depth = escape_passed depth c.args.text.now c.args.at
    c.min.result c.requires.inside c.if-text-at-eq92.true (omega (arith, c.min.ensures))

pub returns-else-text-at-eq92-clause-rest : goal.returns-else-text-at-eq92-clause-rest
returns-else-text-at-eq92-clause-rest c depth = inner_byte depth c.args.text.now c.args.at
    c.requires.inside c.requires.open c.if-text-at-eq92.false
