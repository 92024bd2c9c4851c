-- What was written and what is due from the `next` record on make up the member. Each one that
-- `stands` in the volume sets `later`, by which `end` closes the list or is empty.
use Rattle.std.proofs.Common.{◌≡◌, ◌||◌, Bor, List, ℕ, Some, None, option_map, is_some, false, refl}
use Rattle.std.proofs.Common.{sym, ap, ◌∙◌, subst}
use Rattle.cvr_fact_types.specs.Facts.{name_cmp}
use Rattle.cvr_office.specs.Names.{records}
use Rattle.cvr_office.specs.Readers.{next}
use Rattle.cvr_report.specs.Writes.{Writes, list_text, record_piece, list_end}
use Rattle.cvr_report.specs.Pieces.{record_text, record_texts}
use Rattle.cvr_report.proofs.Pieces.{writes}
use Rattle.cvr_report.proofs.Progress.{Progress, starts, writes_on, stops, ends, record_there}
use Rattle.cvr_report.proofs.Progress.{records_begin, records_fewer, record_next, records_end}
use Rattle.cvr_report.proofs.Progress.{records_rest}
use Rattle.cvr_report.proofs.volume.write_records.Goals as goal
use Rattle.cvr_report.proofs.volume.write_records.Goals.{then-later, else-later, then-later-2}
use Rattle.cvr_report.proofs.volume.write_records.Goals.{else-later-2}

pub records-init : goal.records-init
records-init g c =
    let s = g.O.Office.held c.args.office.now in
    let first = option_map (λ k. k.now) c.next_record-next.result in
    record {
      progress = starts (g.W.Sink.taken c.args.out.now)
          (list_text false (record_texts s c.args.i (records s)))
          (records_rest s c.args.i false first) c.requires.working
          (records_begin s c.args.i first c.next_record-next.ensures);
      listed = record_there s c.args.i None first c.next_record-next.ensures;
    }

pub returns-in_err-stands : goal.returns-in_err-stands
returns-in_err-stands g c =
    let s = g.O.Office.held c.args.office.now in
    let i = c.args.i in
    let here = option_map (λ k. k.now) c.records.next in
    let key = c.in-Some.key.now in
    let above = next name_cmp (records s) (Some key) in
    stops (g.W.Sink.taken c.args.out.now) (g.W.Sink.taken c.records.out)
    (g.W.Sink.taken c.write_record.new.out)
    (list_text false (record_texts s i (records s))) (records_rest s i c.records.later here)
    c.records.invariant.progress c.from_residual.result c.in_err-stands.field-0.0
    (record_piece c.records.later (record_text s i key))
    (records_rest s i (c.records.later || is_some (record_text s i key)) above)
    (record_next s i here above key c.records.invariant.listed
    (ap (option_map (λ k. k.now)) c.in-Some.is) refl c.records.later)
    c.from_residual.ensures.1 c.in_err-stands.ensures.written

pub records-smaller : goal.records-smaller
records-smaller g c =
    records_fewer (g.O.Office.held c.args.office.now) c.args.i
    (option_map (λ k. k.now) c.records.next)
    (option_map (λ k. k.now) c.next_record-next-in-Some.result) c.in-Some.key.now
    c.records.invariant.listed (ap (option_map (λ k. k.now)) c.in-Some.is)
    c.next_record-next-in-Some.ensures

pub records-preserved : goal.records-preserved
records-preserved g c =
    let s = g.O.Office.held c.args.office.now in
    let i = c.args.i in
    let here = option_map (λ k. k.now) c.records.next in
    let key = c.in-Some.key.now in
    let text = record_text s i key in
    let above = option_map (λ k. k.now) c.next_record-next-in-Some.result in
    let flag : (c.records.later || is_some text) ≡ c.if-later.later =
    elim c.if-later.branch [
      | then-later w ↦ ap (λ b. b || is_some text) w.if-later.true ∙ sym w.if-later.true
          ∙ sym w.later-is
      | else-later w ↦ ap (λ b. b || is_some text) w.if-later.false
          ∙ sym c.in_ok-stands.ensures.stands ∙ sym w.later-is
    ] in
    let whole = list_text false (record_texts s i (records s)) in
    record {
      progress =
          subst (λ b. Progress (g.W.Sink.taken c.args.out.now)
          (g.W.Sink.taken c.write_record.new.out) whole (records_rest s i b above)) flag
          (writes_on (g.W.Sink.taken c.args.out.now) (g.W.Sink.taken c.records.out)
          (g.W.Sink.taken c.write_record.new.out)
          whole (records_rest s i c.records.later here) c.records.invariant.progress
          (record_piece c.records.later text)
          (records_rest s i (c.records.later || is_some text) above)
          (record_next s i here above key c.records.invariant.listed
          (ap (option_map (λ k. k.now)) c.in-Some.is) c.next_record-next-in-Some.ensures
          c.records.later)
          c.in_ok-stands.ensures.written.0 c.in_ok-stands.ensures.written.1);
      listed = record_there s i (Some key) above c.next_record-next-in-Some.ensures;
    }

pub returns : goal.returns
returns g c =
    let s = g.O.Office.held c.args.office.now in
    let i = c.args.i in
    let here = option_map (λ k. k.now) c.records.next in
    let last : c.as_bytes.result.now ≡ list_end c.records.later =
    c.as_bytes.ensures.value ∙ elim c.if-later-2.branch [
      | then-later-2 w ↦ ap (λ (s : Bor (List ℕ)). s.now) w.end-is
          ∙ ap list_end (sym w.if-later-2.true)
      | else-later-2 w ↦ ap (λ (s : Bor (List ℕ)). s.now) w.end-is
          ∙ ap list_end (sym w.if-later-2.false)
    ] in
    ends (g.W.Sink.taken c.args.out.now) (g.W.Sink.taken c.records.out)
    (g.W.Sink.taken c.write_piece.new.out)
    (list_text false (record_texts s i (records s))) (records_rest s i c.records.later here)
    c.records.invariant.progress c.write_piece.result
    (subst (Writes (g.W.Sink.taken c.records.out) (g.W.Sink.taken c.write_piece.new.out)
    c.write_piece.result)
    (last ∙ sym (records_end s i here (ap (option_map (λ k. k.now)) c.in_default.is)
    c.records.later))
    (writes (g.W.Sink.taken c.records.out) (g.W.Sink.taken c.write_piece.new.out)
    c.write_piece.result c.as_bytes.result.now c.write_piece.ensures))
