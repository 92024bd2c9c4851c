use Rattle.std.proofs.Common.{◌≡◌, ◌≢◌, ◌++◌, List, [], ℕ, false, sym, ap, ◌∙◌, subst}
use Rattle.cdf_types.specs.Device.{taken_with}
use Rattle.cvr_office.specs.Names.{records, devices}
use Rattle.cvr_report.specs.Record.{comma_list}
use Rattle.cvr_report.specs.Writes.{WritesOrLess, list_text}
use Rattle.cvr_report.specs.Pieces.{head_text, middle_text, end_text, record_texts, device_texts}
use Rattle.cvr_report.proofs.Pieces.{some_prefix, not_empty, cut_before, then_less, no_memory}
use Rattle.cvr_report.proofs.Whole.{whole_text}
use Rattle.cvr_report.proofs.volume.write_report.Goals as goal

-- something is left before each piece
end_left : end_text ≢ []
end_left is = absurd (Prim.cc is)

devices_left : (D : List ℕ) → D ++ end_text ≢ []
devices_left D = not_empty D end_text end_left

middle_left : (M D : List ℕ) → M ++ (D ++ end_text) ≢ []
middle_left M D = not_empty M (D ++ end_text) (devices_left D)

records_left : (R M D : List ℕ) → R ++ (M ++ (D ++ end_text)) ≢ []
records_left R M D = not_empty R (M ++ (D ++ end_text)) (middle_left M D)

pub returns-in_err-write_piece : goal.returns-in_err-write_piece
returns-in_err-write_piece g c =
    let s = g.O.Office.held c.args.office.now in
    let frame = g.O.Office.defined c.args.office.now in
    let h = c.args.heading.now in
    let i = c.args.i in
    let R = list_text false (record_texts s i (records s)) in
    let M = middle_text frame h.date h.device in
    let D = comma_list false (device_texts s i (devices s)) in
    let b = g.W.Sink.taken c.args.out.now in
    let a1 = g.W.Sink.taken c.write_piece.new.out in
    let r = c.from_residual.result in
    subst (WritesOrLess b a1 r) (sym (whole_text frame h.date h.device s i
    c.definition-definition.ensures.can_hold c.requires.number))
    (cut_before b a1 r c.in_err-write_piece.field-0.0 head_text (R ++ (M ++ (D ++ end_text)))
    (records_left R M D) c.from_residual.ensures.1
    (some_prefix b a1 head_text c.in_err-write_piece.ensures.0, c.in_err-write_piece.ensures.1))

pub returns-in_err-write_records : goal.returns-in_err-write_records
returns-in_err-write_records g c =
    let s = g.O.Office.held c.args.office.now in
    let frame = g.O.Office.defined c.args.office.now in
    let h = c.args.heading.now in
    let i = c.args.i in
    let R = list_text false (record_texts s i (records s)) in
    let M = middle_text frame h.date h.device in
    let D = comma_list false (device_texts s i (devices s)) in
    let b = g.W.Sink.taken c.args.out.now in
    let a1 = g.W.Sink.taken c.write_piece.new.out in
    let a2 = g.W.Sink.taken c.write_records.new.out in
    let r = c.from_residual-in_err-write_records.result in
    subst (WritesOrLess b a2 r) (sym (whole_text frame h.date h.device s i
    c.definition-definition.ensures.can_hold c.requires.number))
    (then_less b a1 a2 r head_text (R ++ (M ++ (D ++ end_text))) c.in_ok-write_piece.ensures.0
    (cut_before a1 a2 r c.in_err-write_records.field-0.0 R (M ++ (D ++ end_text)) (middle_left M D)
    c.from_residual-in_err-write_records.ensures.1 c.in_err-write_records.ensures))

pub returns-in_err-push_middle : goal.returns-in_err-push_middle
returns-in_err-push_middle g c =
    let s = g.O.Office.held c.args.office.now in
    let frame = g.O.Office.defined c.args.office.now in
    let h = c.args.heading.now in
    let i = c.args.i in
    let R = list_text false (record_texts s i (records s)) in
    let M = middle_text frame h.date h.device in
    let D = comma_list false (device_texts s i (devices s)) in
    let b = g.W.Sink.taken c.args.out.now in
    let a1 = g.W.Sink.taken c.write_piece.new.out in
    let a2 = g.W.Sink.taken c.write_records.new.out in
    let r = c.from_residual-in_err-push_middle.result in
    subst (WritesOrLess b a2 r) (sym (whole_text frame h.date h.device s i
    c.definition-definition.ensures.can_hold c.requires.number))
    (then_less b a1 a2 r head_text (R ++ (M ++ (D ++ end_text))) c.in_ok-write_piece.ensures.0
    (then_less a1 a2 a2 r R (M ++ (D ++ end_text)) c.in_ok-write_records.ensures.0
    (no_memory a2 r (M ++ (D ++ end_text)) (middle_left M D)
    c.from_residual-in_err-push_middle.ensures.1 c.in_ok-write_records.ensures.1)))

pub returns-in_err-write_piece-2 : goal.returns-in_err-write_piece-2
returns-in_err-write_piece-2 g c =
    let s = g.O.Office.held c.args.office.now in
    let frame = g.O.Office.defined c.args.office.now in
    let h = c.args.heading.now in
    let i = c.args.i in
    let R = list_text false (record_texts s i (records s)) in
    let M = middle_text frame h.date h.device in
    let D = comma_list false (device_texts s i (devices s)) in
    let b = g.W.Sink.taken c.args.out.now in
    let a1 = g.W.Sink.taken c.write_piece.new.out in
    let a2 = g.W.Sink.taken c.write_records.new.out in
    let a3 = g.W.Sink.taken c.write_piece-2.new.out in
    let r = c.from_residual-in_err-write_piece-2.result in
    let middle : c.as_slice.result.now ≡ M = c.as_slice.ensures.value
    ∙ (c.in_ok-push_middle.ensures ∙
    (ap (λ o. o ++ middle_text c.definition-definition.result.now h.date h.device)
    c.clear.ensures.items ∙ ap (λ d. middle_text d h.date h.device)
    c.definition-definition.ensures.is)) in
    subst (WritesOrLess b a3 r) (sym (whole_text frame h.date h.device s i
    c.definition-definition.ensures.can_hold c.requires.number))
    (then_less b a1 a3 r head_text (R ++ (M ++ (D ++ end_text))) c.in_ok-write_piece.ensures.0
    (then_less a1 a2 a3 r R (M ++ (D ++ end_text)) c.in_ok-write_records.ensures.0
    (subst (λ m. WritesOrLess a2 a3 r (m ++ (D ++ end_text))) middle
    (cut_before a2 a3 r c.in_err-write_piece-2.field-0.0 c.as_slice.result.now (D ++ end_text)
    (devices_left D) c.from_residual-in_err-write_piece-2.ensures.1 (
      some_prefix a2 a3 c.as_slice.result.now c.in_err-write_piece-2.ensures.0,
      c.in_err-write_piece-2.ensures.1,
    )))))

pub returns-in_err-write_devices : goal.returns-in_err-write_devices
returns-in_err-write_devices g c =
    let s = g.O.Office.held c.args.office.now in
    let frame = g.O.Office.defined c.args.office.now in
    let h = c.args.heading.now in
    let i = c.args.i in
    let R = list_text false (record_texts s i (records s)) in
    let M = middle_text frame h.date h.device in
    let D = comma_list false (device_texts s i (devices s)) in
    let b = g.W.Sink.taken c.args.out.now in
    let a1 = g.W.Sink.taken c.write_piece.new.out in
    let a2 = g.W.Sink.taken c.write_records.new.out in
    let a3 = g.W.Sink.taken c.write_piece-2.new.out in
    let a4 = g.W.Sink.taken c.write_devices.new.out in
    let r = c.from_residual-in_err-write_devices.result in
    let middle : c.as_slice.result.now ≡ M = c.as_slice.ensures.value
    ∙ (c.in_ok-push_middle.ensures ∙
    (ap (λ o. o ++ middle_text c.definition-definition.result.now h.date h.device)
    c.clear.ensures.items ∙ ap (λ d. middle_text d h.date h.device)
    c.definition-definition.ensures.is)) in
    subst (WritesOrLess b a4 r) (sym (whole_text frame h.date h.device s i
    c.definition-definition.ensures.can_hold c.requires.number))
    (then_less b a1 a4 r head_text (R ++ (M ++ (D ++ end_text))) c.in_ok-write_piece.ensures.0
    (then_less a1 a2 a4 r R (M ++ (D ++ end_text)) c.in_ok-write_records.ensures.0
    (then_less a2 a3 a4 r M (D ++ end_text)
    (c.in_ok-write_piece-2.ensures.0 ∙ ap (taken_with a2.bytes) middle)
    (cut_before a3 a4 r c.in_err-write_devices.field-0.0 D end_text end_left
    c.from_residual-in_err-write_devices.ensures.1 c.in_err-write_devices.ensures))))

pub returns : goal.returns
returns g c =
    let s = g.O.Office.held c.args.office.now in
    let frame = g.O.Office.defined c.args.office.now in
    let h = c.args.heading.now in
    let i = c.args.i in
    let R = list_text false (record_texts s i (records s)) in
    let M = middle_text frame h.date h.device in
    let D = comma_list false (device_texts s i (devices s)) in
    let b = g.W.Sink.taken c.args.out.now in
    let a1 = g.W.Sink.taken c.write_piece.new.out in
    let a2 = g.W.Sink.taken c.write_records.new.out in
    let a3 = g.W.Sink.taken c.write_piece-2.new.out in
    let a4 = g.W.Sink.taken c.write_devices.new.out in
    let a5 = g.W.Sink.taken c.write_piece-3.new.out in
    let r = c.write_piece-3.result in
    let middle : c.as_slice.result.now ≡ M = c.as_slice.ensures.value
    ∙ (c.in_ok-push_middle.ensures ∙
    (ap (λ o. o ++ middle_text c.definition-definition.result.now h.date h.device)
    c.clear.ensures.items ∙ ap (λ d. middle_text d h.date h.device)
    c.definition-definition.ensures.is)) in
    subst (WritesOrLess b a5 r) (sym (whole_text frame h.date h.device s i
    c.definition-definition.ensures.can_hold c.requires.number))
    (then_less b a1 a5 r head_text (R ++ (M ++ (D ++ end_text))) c.in_ok-write_piece.ensures.0
    (then_less a1 a2 a5 r R (M ++ (D ++ end_text)) c.in_ok-write_records.ensures.0
    (then_less a2 a3 a5 r M (D ++ end_text)
    (c.in_ok-write_piece-2.ensures.0 ∙ ap (taken_with a2.bytes) middle)
    (then_less a3 a4 a5 r D end_text c.in_ok-write_devices.ensures.0 c.write_piece-3.ensures))))
