-- An accepted file, and a run beside a sound definition.
use Rattle.std.proofs.Common.{◌≡◌, ℕ, List, [], ◌++◌, Bool, false, Some, None, refl, ap, ◌∙◌}
use Rattle.std.specs.Prelude.{is_some, if◌then◌else◌}
use Rattle.cdf_types.specs.declared.fault.ReadFault.{ReadFault}
use Rattle.cdf_definition.specs.Frame.{Frame}
use Rattle.cdf_definition.specs.Acceptance.{Sound, Valid, first_refusal, first_unsound, frame_in}
use Rattle.cdf_definition.proofs.Laws.{sound_file, valid_file}
use Rattle.cvr_words.specs.declared.request.Task.{Task}
use Rattle.cvr_run.specs.Accepted.{is_unsound}
use Rattle.cvr_run.specs.Outcome.{task_text, run_text, task_fault, run_fault, task_refused}
use Rattle.cvr_run.specs.Outcome.{any_refused}
use Rattle.cvr_run.specs.Logged.{refusal_lines, task_dues, run_lines, last_lines}

pub none_refuses : (definition : Frame) (bytes : List ℕ) → Valid definition bytes
    → first_refusal definition bytes ≡ None
none_refuses definition bytes valid = (valid_file definition bytes).1 valid

-- ---- a run beside a sound definition

pub sound_first : (def : List ℕ) → Sound def → first_unsound def ≡ None
sound_first def s = (sound_file def).1 s

pub is_sound : (def : List ℕ) → Sound def → is_unsound def ≡ false
is_sound def s = rw (sound_first def s) refl

pub text_beside : (task : Task) (def : List ℕ) (definition : Frame) (paths files : List (List ℕ))
    → Sound def → definition ≡ frame_in def
    → task_text definition task paths files ≡ run_text task def paths files
text_beside task def definition paths files s is =
    ap (λ d. task_text d task paths files) is ∙ rw (is_sound def s) refl

pub lines_beside : (task : Task) (what def : List ℕ) (definition : Frame)
    (paths files : List (List ℕ)) (out_failed : Bool) → Sound def → definition ≡ frame_in def
    → refusal_lines (task_dues definition task paths files).texts
    (task_dues definition task paths files).dues
    ++ last_lines (task_fault definition task files) out_failed
    ≡ run_lines task what def paths files ++ last_lines (run_fault task def files) out_failed
lines_beside task what def definition paths files out_failed s is =
    ap (λ d. refusal_lines (task_dues d task paths files).texts (task_dues d task paths files).dues
    ++ last_lines (task_fault d task files) out_failed) is ∙ rw (is_sound def s) refl

pub fault_beside : (task : Task) (def : List ℕ) (files : List (List ℕ)) → Sound def
    → task_fault (frame_in def) task files ≡ run_fault task def files
fault_beside task def files s = rw (is_sound def s) refl

pub refused_beside : (task : Task) (def : List ℕ) (definition : Frame) (files : List (List ℕ))
    → Sound def → definition ≡ frame_in def
    → task_refused definition task files ≡ any_refused task def files
refused_beside task def definition files s is =
    ap (λ d. task_refused d task files) is ∙ rw (is_sound def s) refl

-- ---- and beside one that is refused

-- nothing is logged after its line
pub none_last : (task : Task) (def : List ℕ) (files : List (List ℕ)) (out_failed : Bool)
    (fault : ReadFault) → out_failed ≡ false → first_unsound def ≡ Some fault
    → last_lines (run_fault task def files) out_failed ≡ []
none_last task def files out_failed fault working is = λ i.
    last_lines (if is_some (is i) then None else task_fault (frame_in def) task files) (working i)
