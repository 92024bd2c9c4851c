-- Two whole runs whose files hold the same took the same bytes; and each job may have a whole run.
use Rattle.std.proofs.Common.{◌≡◌, ◌≢◌, ℕ, List, [], Bool, true, false, Some, inl, inr, refl}
use Rattle.std.proofs.Common.{sym, ap, ◌∙◌, subst, append-nil, arith}
use Rattle.std.proofs.lemmas.Bool.{false≢true}
use Rattle.std.specs.Prelude.{unwrap_or}
use Rattle.serde_json.specs.Data.{null}
use Rattle.cdf_types.specs.Device.{Taken, Appends}
use Rattle.cdf_definition.specs.Frame.{Frame, frame_of}
use Rattle.cdf_definition.specs.Sound.{IsFrame}
use Rattle.cdf_definition.specs.Acceptance.{Sound, frame_in}
use Rattle.cdf_definition.proofs.Laws.{sound}
use Rattle.cdf_check.proofs.Laws.{one_definition}
use Rattle.cvr_words.specs.declared.request.Task.{Task}
use Rattle.cvr_run.specs.declared.status.Status.{Status}
use Rattle.cvr_run.specs.declared.status.Status.TheVariants.{Done, Refused, CommandLine, Device}
use Rattle.cvr_run.specs.declared.status.Status.TheVariants.{Memory}
use Rattle.cvr_run.specs.Ends.{job_text, job_lines, job_refused}
use Rattle.cvr_run.specs.Outcome.{IsWhole, content_of_files, facts_text, task_text, run_text}
use Rattle.cvr_run.proofs.Laws.{same_held}
use Rattle.cvr_run.proofs.Lemmas.{text_beside}
use Rattle.cvr_whole.specs.Runs.{MayBeWholeLaw, IsOfAllFiles, AreOneDefinition}
use Rattle.cvr_whole.specs.Runs.{SameBytesLaw}

-- ---- one text

pub sound_frame : (def : List ℕ) → Sound def → IsFrame (frame_in def)
sound_frame def s =
    ∣ (s.0, (def, s.1), (sound s.0).1 s.2, ap (λ o. frame_of (unwrap_or o null)) s.1.1) ∣₁

one_frame : (def other : List ℕ) → AreOneDefinition def other → frame_in def ≡ frame_in other
one_frame def other are = one_definition (frame_in def) (frame_in other)
    (sound_frame def are.sound) (sound_frame other are.other_sound) are.one

of_held : (definition : Frame) (task : Task) (paths files : List (List ℕ)) → IsOfAllFiles task
    → task_text definition task paths files
    ≡ facts_text definition task (content_of_files definition files)
of_held definition task paths files all = grind arith

-- files that hold the same under one definition print the same
pub same_text : (task : Task) (def other : List ℕ) (paths other_paths files others : List (List ℕ))
    → IsOfAllFiles task → Sound def → Sound other → frame_in def ≡ frame_in other
    → content_of_files (frame_in def) files ≡ content_of_files (frame_in def) others
    → run_text task def paths files ≡ run_text task other other_paths others
same_text task def other paths other_paths files others all s t frames is =
    sym (text_beside task def (frame_in def) paths files s refl)
    ∙ (of_held (frame_in def) task paths files all
    ∙ (ap (facts_text (frame_in def) task) is
    ∙ (sym (of_held (frame_in def) task other_paths others all)
    ∙ text_beside task other (frame_in def) other_paths others t frames)))

pub same_bytes : SameBytesLaw
same_bytes job other run again all same =
    let def = same.definition in
    let is : job_text job ≡ job_text other =
    same_text job.request.task job.def other.def job.request.paths other.request.paths job.files
    other.files all def.sound def.other_sound (one_frame job.def other.def def)
    (same_held (frame_in job.def) job.files other.files same.files)
    ∙ ap (λ task. run_text task other.def other.request.paths other.files) same.task in (
      job_text job,
      run.ran.ends.whole run.whole,
      subst (Appends again.old.out again.new.out) (sym is) (again.ran.ends.whole again.whole),
    )

-- ---- a whole run

-- the status of a whole run, by whether anything is refused
abbrev pub status_of : Bool → Status
status_of true = Refused
status_of false = Done

is_whole : (refused : Bool) → IsWhole (status_of refused)
is_whole true = inr refl
is_whole false = inl refl

if_done : (refused : Bool) → status_of refused ≡ Done → refused ≡ false
if_done refused is = grind arith

if_refused : (refused : Bool) → status_of refused ≡ Refused → refused ≡ true
if_refused refused is = grind arith

device_is_not : (refused : Bool) → status_of refused ≢ Device
device_is_not refused is = grind arith

memory_is_not : (refused : Bool) → status_of refused ≢ Memory
memory_is_not refused is = grind arith

line_is_not : (refused : Bool) → status_of refused ≢ CommandLine
line_is_not refused is = grind arith

-- a device that has these bytes
abbrev with_bytes : List ℕ → Taken
with_bytes bytes = record { bytes = Some bytes; failed = false }

pub may_be_whole : MayBeWholeLaw
may_be_whole job =
    let refused = job_refused job in
    let text = job_text job in
    let lines = job_lines job false in (
      record {
        status = status_of refused;
        old = record { out = with_bytes []; log = with_bytes [] };
        new = record { out = with_bytes text; log = with_bytes lines };
        ran = record {
          ends = record {
            done = if_done refused;
            refused = if_refused refused;
            whole = λ _. refl;
            front = (text, [], sym (append-nil text), refl);
            device = λ is. absurd (device_is_not refused is);
            failed = λ is. absurd (false≢true is);
            no_words = line_is_not refused;
          };
          log = λ _. record {
            whole = λ _. refl;
            front = (lines, [], sym (append-nil lines), refl);
            silent = λ is. absurd (false≢true is);
          };
          cut_short = λ is. absurd (memory_is_not refused is);
        };
        whole = is_whole refused;
      },
      refl,
      refl,
    )
