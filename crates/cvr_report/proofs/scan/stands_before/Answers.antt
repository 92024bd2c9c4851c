use Rattle.std.proofs.Common.{sym, ◌∙◌, arith}
use Rattle.cvr_report.proofs.Names.{opens_both, at_quote, at_backslash, at_other, at_end, name_over}
use Rattle.cvr_report.proofs.Names.{both_on}
use Rattle.cvr_report.proofs.scan.stands_before.Goals as goal

pub returns-then-byte-eq34 : goal.returns-then-byte-eq34
returns-then-byte-eq34 c =
    sym (sym c.bytes.invariant.same ∙ opens_both c.args.text.now c.args.name.now c.bytes.at
    c.bytes.matched (omega arith) (omega arith) ∙ at_quote _ _ _ _ c.if-byte-eq34.true)

pub returns-then-byte-eq92 : goal.returns-then-byte-eq92
returns-then-byte-eq92 c =
    c.escape_is_before.ensures ∙ sym (sym c.bytes.invariant.same
    ∙ opens_both c.args.text.now c.args.name.now c.bytes.at c.bytes.matched (omega arith)
    (omega arith) ∙ at_backslash _ _ _ _ c.if-byte-eq92.true)

pub returns-then-byte-name : goal.returns-then-byte-name
returns-then-byte-name c =
    sym (sym c.bytes.invariant.same ∙ opens_both c.args.text.now c.args.name.now c.bytes.at
    c.bytes.matched (omega arith) (omega arith)
    ∙ at_other _ _ _ _ c.if-byte-eq34.false c.if-byte-eq92.false c.if-byte-name.true)

pub bytes-preserved : goal.bytes-preserved
bytes-preserved c = record {
  same =
      sym (opens_both c.args.text.now c.args.name.now c.bytes.at c.bytes.matched (omega arith)
      (omega arith) ∙ both_on _ _ _ _ c.if-byte-eq34.false c.if-byte-eq92.false
      c.if-byte-name.false) ∙ c.bytes.invariant.same;
  high = omega arith;
  short = omega arith;
}

pub returns-else-at-text : goal.returns-else-at-text
returns-else-at-text c = sym (sym c.bytes.invariant.same
    ∙ at_end c.args.text.now c.args.name.now c.bytes.at c.bytes.matched (omega arith))

pub returns-after-bytes : goal.returns-after-bytes
returns-after-bytes c = sym (sym c.bytes.invariant.same
    ∙ name_over c.args.text.now c.args.name.now c.bytes.at c.bytes.matched (omega arith))
