-- A run over files beside a sound definition is one over its bytes.
use Rattle.std.proofs.Common.{◌≡◌, ◌∙◌, ℕ, List, false, inr, sym, ap, subst}
use Rattle.cdf_definition.specs.Acceptance.{Sound, frame_in}
use Rattle.cdf_definition.specs.Frame.{Frame}
use Rattle.cdf_types.specs.Device.{Taken}
use Rattle.cvr_words.specs.declared.request.Request.{Request}
use Rattle.cvr_run.specs.declared.status.Status.{Status}
use Rattle.cvr_run.specs.declared.status.Status.TheVariants.{Memory}
use Rattle.cvr_run.specs.Devices.{Outputs}
use Rattle.cvr_run.specs.Ends.{Ends, Ran, RanBeside}
use Rattle.cvr_run.specs.Log.{memory_line, Logs}
use Rattle.cvr_run.specs.Outcome.{any_refused, run_fault, run_text, task_text, task_fault}
use Rattle.cvr_run.specs.Logged.{task_dues, IsCutShort}
use Rattle.cvr_run.proofs.Accepted.{text_beside, refused_beside, is_sound, lines_beside}
use Rattle.cvr_run.proofs.Accepted.{fault_beside}
use Rattle.cvr_run.proofs.Endings.{ends_in_memory}
use Rattle.cvr_run.proofs.Logging.{cut_at_once}

pub ran_beside : (request : Request) (def : List ℕ) (definition : Frame) (files : List (List ℕ))
    (answer : Status) (old new : Outputs) → Sound def → definition ≡ frame_in def
    → RanBeside definition request.task request.paths files answer old new
    → Ran (record { request = request; def = def; files = files }) answer old new
ran_beside request def definition files answer old new sound frame ran =
    let task = request.task in
    let paths = request.paths in
    let failed = new.out.failed in
    record {
      ends =
          subst (λ text. Ends old.out new.out text (any_refused task def files) answer)
          (text_beside task def definition paths files sound frame)
          (subst (λ some. Ends old.out new.out (task_text definition task paths files) some answer)
          (refused_beside task def definition files sound frame) ran.ends);
      log = λ whole. subst (Logs old.log new.log)
          (lines_beside task request.def def definition paths files failed sound frame)
          (ran.log.log whole);
      cut_short = λ memory.
          let some = ran.log.cut_short memory in (
            some.0,
            inr (
              is_sound def sound,
              subst (λ fault. IsCutShort (task_dues (frame_in def) task paths files) fault failed
                  some.0) (fault_beside task def files sound)
                  (subst (λ d. IsCutShort (task_dues d task paths files) (task_fault d task files)
                  failed some.0) frame some.1),
            ),
            some.2,
          );
    }

-- the output is as it was, and the log has `memory` alone
pub ran_at_once : (request : Request) (def : List ℕ) (files : List (List ℕ)) (answer : Status)
    (old new : Outputs) → Sound def → old.out.failed ≡ false → new.out ≡ old.out → answer ≡ Memory
    → Logs old.log new.log memory_line
    → Ran (record { request = request; def = def; files = files }) answer old new
ran_at_once request def files answer old new sound works same is logs = record {
  ends = subst (λ out. Ends old.out out (run_text request.task def request.paths files)
      (any_refused request.task def files) answer) (sym same)
      (ends_in_memory old.out _ _ answer works is);
  log = λ no. absurd (no is);
  cut_short = λ _.
      let cut = cut_at_once (task_dues (frame_in def) request.task request.paths files) old.log
      new.log (run_fault request.task def files) logs in (
        cut.0,
        inr (
          is_sound def sound,
          subst (λ failed. IsCutShort (task_dues (frame_in def) request.task request.paths files)
              (run_fault request.task def files) failed cut.0) (sym works ∙ ap (λ (o : Taken). o.failed) (sym same)) cut.1,
        ),
        cut.2,
      );
}
