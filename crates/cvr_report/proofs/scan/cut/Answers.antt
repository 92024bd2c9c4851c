-- At each place (`at`) that the loop `members` comes to, the cut is still to be found from there
-- on: at the closing brace, or where a name (`start`) doesn't stand before the one sought.
use Rattle.std.proofs.Common.{rules, ◌≡◌, drop, false, true, sym, ap, ◌∙◌, arith}
use Rattle.cvr_report.specs.Scan.{InString, is_before, left_after}
use Rattle.cvr_report.proofs.Cutting.{goes_on, cut_at_end, cut_past, cut_at_name, no_text}
use Rattle.cvr_report.proofs.scan.cut.Goals as goal

pub returns-then-text-at-eq125-clause-cut : goal.returns-then-text-at-eq125-clause-cut
returns-then-text-at-eq125-clause-cut c = cut_at_end c.args.text.now c.args.from c.args.name.now
    c.members.at c.members.invariant.goes c.if-text-at-eq125.true

pub returns-then-start-text-clause-cut : goal.returns-then-start-text-clause-cut
returns-then-start-text-clause-cut c =
    cut_past c.args.text.now c.args.from c.args.name.now c.members.at c.members.invariant.goes
    c.if-text-at-eq125.false (omega (arith, c.name_start-start.ensures, c.if-start-text.true))

pub returns-then-not-stands_before-clause-cut : goal.returns-then-not-stands_before-clause-cut
returns-then-not-stands_before-clause-cut c =
    let stop : c.stands_before.result ≡ false = grind arith in
    cut_at_name c.args.text.now c.args.from c.args.name.now c.members.at c.members.invariant.goes
    c.if-text-at-eq125.false c.members-test.true c.requires.plain
    (ap (λ n. is_before (drop n c.args.text.now) c.args.name.now) (sym c.name_start-start.ensures)
    ∙ sym c.stands_before.ensures ∙ stop)

pub members-preserved : goal.members-preserved
members-preserved c =
    let go : c.stands_before.result ≡ true = grind arith in
    record {
      goes =
          goes_on c.args.text.now c.args.from c.args.name.now c.members.at c.member_end-at.result
          c.members.invariant.goes c.if-text-at-eq125.false c.requires.plain
          (ap (λ n. is_before (drop n c.args.text.now) c.args.name.now)
          (sym c.name_start-start.ensures) ∙ sym c.stands_before.ensures ∙ go)
          (c.member_end-at.ensures.rest
          ∙ ap (λ n. left_after InString 0 (drop n c.args.text.now))
          c.name_start-start.ensures);
      low = search rules;
      high = search rules;
    }

pub returns-clause-cut : goal.returns-clause-cut
returns-clause-cut c = no_text c.args.text.now c.args.from c.args.name.now c.members.at
    c.members.invariant.goes (omega (arith, c.members-test.false))
