-- A record that doesn't stand in the volume adds no text. Of another the buffer has `lead` and the
-- text of what was `found`, which is the piece due; a failed write leaves a beginning of it.
use Rattle.std.proofs.Common.{◌≡◌, ◌++◌, Bool, Bor, List, [], ℕ, Some, is_some, true, false, codes}
use Rattle.std.proofs.Common.{refl, sym, ap, ◌∙◌, subst, append-nil}
use Rattle.serde_json.specs.Written.{compact_text}
use Rattle.cdf_types.specs.Device.{taken_with}
use Rattle.cvr_office.specs.Readers.{AreRecordFacts}
use Rattle.cvr_report.specs.Page.{stands, shown_record}
use Rattle.cvr_report.specs.Volume.{record_data}
use Rattle.cvr_report.specs.Writes.{Writes, record_piece}
use Rattle.cvr_report.specs.Pieces.{record_text}
use Rattle.cvr_report.proofs.Kept.{headed}
use Rattle.cvr_report.proofs.Pieces.{some_prefix, cut_short, appended_none}
use Rattle.cvr_report.proofs.Shows.{can_show, stands_is, no_text, some_text}
use Rattle.cvr_report.proofs.volume.write_record.Goals as goal
use Rattle.cvr_report.proofs.volume.write_record.Goals.{then-later, else-later}

abbrev lead_of : Bool → List ℕ
lead_of true = codes ","
lead_of false = codes ",\"CVR\":["

lead_piece : (later : Bool) (t : List ℕ) → lead_of later ++ t ≡ record_piece later (Some t)
lead_piece true t = refl
lead_piece false t = refl

pub returns-then-not-stands-clause-stands : goal.returns-then-not-stands-clause-stands
returns-then-not-stands-clause-stands g c =
    let s = g.O.Office.held c.args.office.now in
    let frame = g.O.Office.defined c.args.office.now in
    let are =
    subst (AreRecordFacts frame.contests s c.args.key.now) c.in-Some.is c.in_ok-found.ensures in
    let not : stands s c.args.i c.args.key.now
    ≡ false = sym (stands_is frame s c.requires.can_hold c.args.key.now c.in-Some.found are.1
    c.args.i) ∙ (sym c.stands.ensures ∙ c.if-not-stands.true) in
    sym (ap is_some (no_text s c.args.i c.args.key.now not))

pub returns-then-not-stands-clause-written : goal.returns-then-not-stands-clause-written
returns-then-not-stands-clause-written g c =
    let s = g.O.Office.held c.args.office.now in
    let frame = g.O.Office.defined c.args.office.now in
    let are =
    subst (AreRecordFacts frame.contests s c.args.key.now) c.in-Some.is c.in_ok-found.ensures in
    let not : stands s c.args.i c.args.key.now
    ≡ false = sym (stands_is frame s c.requires.can_hold c.args.key.now c.in-Some.found are.1
    c.args.i) ∙ (sym c.stands.ensures ∙ c.if-not-stands.true) in (
      appended_none (g.W.Sink.taken c.args.out.now).bytes
          ∙ ap (λ o. taken_with (g.W.Sink.taken c.args.out.now).bytes (record_piece c.args.later o))
          (sym (no_text s c.args.i c.args.key.now not)),
      c.requires.working,
    )

pub push_shown-requires-clause-some : goal.push_shown-requires-clause-some
push_shown-requires-clause-some g c =
    let s = g.O.Office.held c.args.office.now in
    let frame = g.O.Office.defined c.args.office.now in
    let are =
    subst (AreRecordFacts frame.contests s c.args.key.now) c.in-Some.is c.in_ok-found.ensures in
    can_show frame s c.requires.can_hold c.args.key.now c.in-Some.found are.1
    (headed frame s c.requires.can_hold c.args.key.now c.requires.listed)

pub returns-in_err-write_piece-clause-written : goal.returns-in_err-write_piece-clause-written
returns-in_err-write_piece-clause-written g c =
    let s = g.O.Office.held c.args.office.now in
    let frame = g.O.Office.defined c.args.office.now in
    let key = c.args.key.now in
    let are = subst (AreRecordFacts frame.contests s key) c.in-Some.is c.in_ok-found.ensures in
    let is : stands s c.args.i key ≡ true = sym
    (stands_is frame s c.requires.can_hold key c.in-Some.found are.1 c.args.i)
    ∙ (sym c.stands.ensures ∙ c.if-not-stands.false) in
    let text = compact_text (record_data (shown_record s c.args.i key)) in
    let lead : c.as_bytes.result.now ≡ lead_of c.args.later =
    c.as_bytes.ensures.value ∙ elim c.if-later.branch [
      | then-later w ↦ ap (λ (s : Bor (List ℕ)). s.now) w.lead-is ∙ ap lead_of (sym w.if-later.true)
      | else-later w ↦ ap (λ (s : Bor (List ℕ)). s.now) w.lead-is
          ∙ ap lead_of (sym w.if-later.false)
    ] in
    let piece : c.as_slice.result.now ≡ record_piece c.args.later (record_text s c.args.i key) =
    c.as_slice.ensures.value ∙ (c.in_ok-push_shown.ensures frame s key c.requires.can_hold are.1
    ∙ (ap (λ b. b ++ text) (c.in_ok-extend_from_slice.ensures.items
    ∙ (ap (λ b. b ++ c.as_bytes.result.now) c.clear.ensures.items ∙ lead))
    ∙ (lead_piece c.args.later text ∙ ap (record_piece c.args.later)
    (sym (some_text s c.args.i key is))))) in
    subst (Writes (g.W.Sink.taken c.args.out.now) (g.W.Sink.taken c.write_piece.new.out)
    c.from_residual-in_err-write_piece.result) (append-nil _ ∙ piece)
    (cut_short (g.W.Sink.taken c.args.out.now) (g.W.Sink.taken c.write_piece.new.out)
    c.from_residual-in_err-write_piece.result c.in_err-write_piece.field-0.0
    c.as_slice.result.now [] c.from_residual-in_err-write_piece.ensures.1 (
      some_prefix (g.W.Sink.taken c.args.out.now) (g.W.Sink.taken c.write_piece.new.out)
          c.as_slice.result.now c.in_err-write_piece.ensures.0,
      c.in_err-write_piece.ensures.1,
    ))

pub returns-clause-stands : goal.returns-clause-stands
returns-clause-stands g c =
    let s = g.O.Office.held c.args.office.now in
    let frame = g.O.Office.defined c.args.office.now in
    let are =
    subst (AreRecordFacts frame.contests s c.args.key.now) c.in-Some.is c.in_ok-found.ensures in
    let is : stands s c.args.i c.args.key.now
    ≡ true = sym (stands_is frame s c.requires.can_hold c.args.key.now c.in-Some.found are.1
    c.args.i) ∙ (sym c.stands.ensures ∙ c.if-not-stands.false) in
    sym (ap is_some (some_text s c.args.i c.args.key.now is))

pub returns-clause-written : goal.returns-clause-written
returns-clause-written g c =
    let s = g.O.Office.held c.args.office.now in
    let frame = g.O.Office.defined c.args.office.now in
    let key = c.args.key.now in
    let are = subst (AreRecordFacts frame.contests s key) c.in-Some.is c.in_ok-found.ensures in
    let is : stands s c.args.i key ≡ true = sym
    (stands_is frame s c.requires.can_hold key c.in-Some.found are.1 c.args.i)
    ∙ (sym c.stands.ensures ∙ c.if-not-stands.false) in
    let text = compact_text (record_data (shown_record s c.args.i key)) in
    let lead : c.as_bytes.result.now ≡ lead_of c.args.later =
    c.as_bytes.ensures.value ∙ elim c.if-later.branch [
      | then-later w ↦ ap (λ (s : Bor (List ℕ)). s.now) w.lead-is ∙ ap lead_of (sym w.if-later.true)
      | else-later w ↦ ap (λ (s : Bor (List ℕ)). s.now) w.lead-is
          ∙ ap lead_of (sym w.if-later.false)
    ] in
    let piece : c.as_slice.result.now ≡ record_piece c.args.later (record_text s c.args.i key) =
    c.as_slice.ensures.value ∙ (c.in_ok-push_shown.ensures frame s key c.requires.can_hold are.1
    ∙ (ap (λ b. b ++ text) (c.in_ok-extend_from_slice.ensures.items
    ∙ (ap (λ b. b ++ c.as_bytes.result.now) c.clear.ensures.items ∙ lead))
    ∙ (lead_piece c.args.later text ∙ ap (record_piece c.args.later)
    (sym (some_text s c.args.i key is))))) in (
      c.in_ok-write_piece.ensures.0 ∙ ap (taken_with (g.W.Sink.taken c.args.out.now).bytes) piece,
      c.in_ok-write_piece.ensures.1,
    )
