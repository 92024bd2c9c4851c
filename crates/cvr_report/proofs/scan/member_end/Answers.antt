-- From each place (`at`), with `depth` brackets open, the member ends where it did from the first;
-- a `byte` that is a quote leads past a whole string, which leaves the depth as it is.
use Rattle.std.proofs.Common.{◌+◌, drop, sym, ap, ◌∙◌, arith}
use Rattle.cvr_report.specs.Scan.{Between, left_after}
use Rattle.cvr_report.proofs.Steps.{first_quote, outer_byte, stop_byte, no_byte}
use Rattle.cvr_report.proofs.scan.member_end.Goals as goal

pub bytes-init : goal.bytes-init
bytes-init c = record {
  same = sym (c.string_end-at.ensures.rest 0);
  low = omega arith;
  high = omega arith;
  shallow = omega arith;
}

pub returns-then-stops_at-clause-rest : goal.returns-then-stops_at-clause-rest
returns-then-stops_at-clause-rest c =
    sym (stop_byte Between c.bytes.depth c.args.text.now c.bytes.at c.bytes-test.true
    (sym c.stops_at.ensures ∙ c.if-stops_at.true)) ∙ c.bytes.invariant.same

pub bytes-preserved-then-byte-eq34 : goal.bytes-preserved-then-byte-eq34
bytes-preserved-then-byte-eq34 c = record {
  same =
      sym (c.string_end-at-then-byte-eq34.ensures.rest c.bytes.depth)
      ∙ sym (first_quote c.bytes.depth c.args.text.now c.bytes.at c.bytes-test.true
      (sym c.stops_at.ensures ∙ c.if-stops_at.false) c.if-byte-eq34.true)
      ∙ c.bytes.invariant.same;
  low = omega arith;
  high = omega arith;
  shallow = omega arith;
}

pub bytes-preserved : goal.bytes-preserved
bytes-preserved c = record {
  same =
      ap (λ n. left_after Between n (drop (c.bytes.at + 1) c.args.text.now))
      c.depth_after-depth.ensures.value
      ∙ sym (outer_byte c.bytes.depth c.args.text.now c.bytes.at c.bytes-test.true
      (sym c.stops_at.ensures ∙ c.if-stops_at.false) c.if-byte-eq34.false)
      ∙ c.bytes.invariant.same;
  low = omega arith;
  high = omega arith;
  shallow = omega arith;
}

pub returns-clause-rest : goal.returns-clause-rest
returns-clause-rest c = sym (no_byte Between c.bytes.depth c.args.text.now c.bytes.at (omega arith))
    ∙ c.bytes.invariant.same
