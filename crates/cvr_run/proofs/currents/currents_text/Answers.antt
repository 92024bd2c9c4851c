use Rattle.std.proofs.Common.{◌++◌, Some, None, option_map, ap, ◌∙◌}
use Rattle.cvr_run.proofs.CurrentLines.{lines_from, lines_from-first, next_record_listed}
use Rattle.cvr_run.proofs.CurrentLines.{fewer_from, line_more}
use Rattle.cvr_run.proofs.currents.currents_text.Goals as goal

pub loop-next-init : goal.loop-next-init
loop-next-init g c =
    let facts = g.O.Office.held c.args.office.now in
    let first = option_map (λ k. k.now) c.next_record-next.result in
    let is = c.next_record-next.ensures in
    record {
      text = ap (λ text. text ++ lines_from facts first) c.new-text.ensures.bytes
          ∙ lines_from-first facts first is;
      listed = next_record_listed facts None first is;
    }

pub loop-next-smaller : goal.loop-next-smaller
loop-next-smaller g c =
    let facts = g.O.Office.held c.args.office.now in
    let here = option_map (λ k. k.now) c.loop-next.next in
    let above = option_map (λ k. k.now) c.next_record-next-in-Some.result in
    fewer_from facts here c.in-Some.key.now above (ap (option_map (λ k. k.now)) c.in-Some.is)
    c.loop-next.invariant.listed c.next_record-next-in-Some.ensures

pub loop-next-preserved : goal.loop-next-preserved
loop-next-preserved g c =
    let facts = g.O.Office.held c.args.office.now in
    let here = option_map (λ k. k.now) c.loop-next.next in
    let key = c.in-Some.key.now in
    let above = option_map (λ k. k.now) c.next_record-next-in-Some.result in
    let is = c.next_record-next-in-Some.ensures in
    record {
      text = line_more facts here key above (ap (option_map (λ k. k.now)) c.in-Some.is)
          c.loop-next.invariant.listed is _ _ c.in_ok-push_line.ensures
          ∙ c.loop-next.invariant.text;
      listed = next_record_listed facts (Some key) above is;
    }
