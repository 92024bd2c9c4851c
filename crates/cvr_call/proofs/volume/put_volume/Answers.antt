use Rattle.std.proofs.Common.{◌∙◌, Some, ap, inr}
use Rattle.std.proofs.lemmas.Str.{is_utf8-from_IsUtf8}
use Rattle.cvr_call.proofs.Volumes.{no_text, no_volume, volume_shown, words}
use Rattle.cvr_call.proofs.volume.put_volume.Goals as goal

pub returns-in_default-clause-volume : goal.returns-in_default-clause-volume
returns-in_default-clause-volume c =
    rw (no_text c.args.date.now c.in_default.ensures.cases.0) (inr c.code.ensures)

pub returns-in_default-from_utf8-clause-volume : goal.returns-in_default-from_utf8-clause-volume
returns-in_default-from_utf8-clause-volume c = rw (
  is_utf8-from_IsUtf8 c.args.date.now c.in-Ok.ensures.cases.1,
  no_text c.args.device.now c.in_default-from_utf8.ensures.cases.0,
) (inr c.code-in_default-from_utf8.ensures)

pub returns-in-Ok-print_volume-clause-volume : goal.returns-in-Ok-print_volume-clause-volume
returns-in-Ok-print_volume-clause-volume c = rw (
  words c.args.office.now c.args.date.now c.args.device.now c.args.number c.in-Ok.ensures.cases.1
      c.in-Ok-from_utf8.ensures.cases.1 c.if-number-eq0.false,
  ← c.in-Ok.ensures.cases.0,
  ← c.in-Ok-from_utf8.ensures.cases.0,
) (volume_shown _ _ _ _ _ _ _ _ c.in-Ok-print_volume.ensures.2
    (ap (λ s. s.taken) c.new-out.ensures) (ap Some c.taken.ensures ∙ c.in-Ok-print_volume.ensures.0)
    c.leave_bytes.ensures)

pub returns-clause-volume : goal.returns-clause-volume
returns-clause-volume c = rw (
  words c.args.office.now c.args.date.now c.args.device.now c.args.number c.in-Ok.ensures.cases.1
      c.in-Ok-from_utf8.ensures.cases.1 c.if-number-eq0.false,
  ← c.in-Ok.ensures.cases.0,
  ← c.in-Ok-from_utf8.ensures.cases.0,
) (no_volume _ _ c.in-Err.fault _ _ _ c.in-Err.ensures.2 c.fault_status.ensures)
