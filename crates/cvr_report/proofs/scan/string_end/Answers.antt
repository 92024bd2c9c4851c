use Rattle.std.proofs.Common.{sym, ◌∙◌, arith}
use Rattle.cvr_report.proofs.Steps.{last_quote, no_quote}
use Rattle.cvr_report.proofs.scan.string_end.Goals as goal

pub returns-then-text-at-eq34-clause-rest : goal.returns-then-text-at-eq34-clause-rest
returns-then-text-at-eq34-clause-rest c depth = sym (c.bytes.invariant.same depth)
    ∙ last_quote depth c.args.text.now c.bytes.at c.bytes-test.true c.if-text-at-eq34.true

pub bytes-preserved : goal.bytes-preserved
bytes-preserved c = record {
  same = λ depth. sym (c.byte_end-at.ensures.rest depth) ∙ c.bytes.invariant.same depth;
  low = omega arith;
  high = omega arith;
}

pub returns-clause-rest : goal.returns-clause-rest
returns-clause-rest c depth =
    sym (c.bytes.invariant.same depth) ∙ no_quote depth c.args.text.now c.bytes.at (omega arith)
