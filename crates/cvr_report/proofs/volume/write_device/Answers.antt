-- The comma (`lead`), if one is due, and the `body` that volume `i` shows are written in this
-- order; where the comma can't be written, what `out` took of it begins that text.
use Rattle.std.proofs.Common.{◌≡◌, ◌++◌, Bor, List, ℕ, option_map, sym, ap, ◌∙◌, subst}
use Rattle.serde_json.specs.Written.{comma_if}
use Rattle.cvr_office.specs.declared.conflict.ConflictName.TheVariants as name
use Rattle.cvr_office.specs.Names.{bodies_under}
use Rattle.cvr_report.proofs.Picking.{shown_is}
use Rattle.cvr_office.specs.Readers.{device_list}
use Rattle.cvr_report.specs.Page.{shown_body}
use Rattle.cvr_report.specs.Writes.{Writes}
use Rattle.cvr_report.proofs.Pieces.{some_prefix, writes, cut_short, goes_on}
use Rattle.cvr_report.proofs.volume.write_device.Goals as goal
use Rattle.cvr_report.proofs.volume.write_device.Goals.{then-later, else-later}

pub returns-in_err-write_piece : goal.returns-in_err-write_piece
returns-in_err-write_piece g c =
    let lead : c.as_bytes.result.now ≡ comma_if c.args.later =
    c.as_bytes.ensures.value ∙ elim c.if-later.branch [
      | then-later w ↦ ap (λ (s : Bor (List ℕ)). s.now) w.lead-is
          ∙ ap comma_if (sym w.if-later.true)
      | else-later w ↦ ap (λ (s : Bor (List ℕ)). s.now) w.lead-is
          ∙ ap comma_if (sym w.if-later.false)
    ] in
    let body =
    shown_body c.args.i (device_list (g.O.Office.held c.args.office.now) c.args.id.now) in
    subst (λ t. Writes (g.W.Sink.taken c.args.out.now) (g.W.Sink.taken c.write_piece.new.out)
    c.from_residual.result (t ++ body)) lead
    (cut_short (g.W.Sink.taken c.args.out.now) (g.W.Sink.taken c.write_piece.new.out)
    c.from_residual.result c.in_err-write_piece.field-0.0 c.as_bytes.result.now body
    c.from_residual.ensures.1 (
      some_prefix (g.W.Sink.taken c.args.out.now) (g.W.Sink.taken c.write_piece.new.out)
          c.as_bytes.result.now c.in_err-write_piece.ensures.0,
      c.in_err-write_piece.ensures.1,
    ))

pub returns-in-Some : goal.returns-in-Some
returns-in-Some g c =
    let lead : c.as_bytes.result.now ≡ comma_if c.args.later =
    c.as_bytes.ensures.value ∙ elim c.if-later.branch [
      | then-later w ↦ ap (λ (s : Bor (List ℕ)). s.now) w.lead-is
          ∙ ap comma_if (sym w.if-later.true)
      | else-later w ↦ ap (λ (s : Bor (List ℕ)). s.now) w.lead-is
          ∙ ap comma_if (sym w.if-later.false)
    ] in
    let body =
    shown_body c.args.i (device_list (g.O.Office.held c.args.office.now) c.args.id.now) in
    let is : c.as_bytes-in-Some.result.now ≡ body =
    c.as_bytes-in-Some.ensures.value ∙ (c.as_str.ensures
    ∙ shown_is (bodies_under (g.O.Office.held c.args.office.now) (name.Device c.args.id.now))
    c.args.i c.min.result c.device_count.result c.in-Some.body.now
    c.min.ensures c.device_count.ensures
    (ap (option_map (λ b. b.now)) (sym c.in-Some.is) ∙ c.device_body.ensures)) in
    subst (λ t. Writes (g.W.Sink.taken c.args.out.now)
    (g.W.Sink.taken c.write_piece-in-Some.new.out) c.write_piece-in-Some.result (t ++ body))
    lead
    (goes_on (g.W.Sink.taken c.args.out.now) (g.W.Sink.taken c.write_piece.new.out)
    (g.W.Sink.taken c.write_piece-in-Some.new.out) c.write_piece-in-Some.result
    c.as_bytes.result.now body c.in_ok-write_piece.ensures.0
    (subst (Writes (g.W.Sink.taken c.write_piece.new.out)
    (g.W.Sink.taken c.write_piece-in-Some.new.out) c.write_piece-in-Some.result) is
    (writes (g.W.Sink.taken c.write_piece.new.out) (g.W.Sink.taken c.write_piece-in-Some.new.out)
    c.write_piece-in-Some.result c.as_bytes-in-Some.result.now c.write_piece-in-Some.ensures)))
