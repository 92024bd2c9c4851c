-- How a run ends: its status, what its output took, and what its log took. (This project's own.)
use Rattle.std.specs.Prelude.{◌≡◌, ◌≢◌, ◌⊎◌, ◌++◌, ℕ, List, Bool, true, false, Option}
use Rattle.cdf_definition.specs.Frame.{Frame}
use Rattle.cdf_types.specs.Device.{Taken, Appends, AppendsPrefix}
use Rattle.cvr_run.specs.declared.status.Status.{Status}
use Rattle.cvr_run.specs.declared.status.Status.TheVariants.{Done, Refused, CommandLine, Device}
use Rattle.cvr_run.specs.declared.status.Status.TheVariants.{Memory}
use Rattle.cvr_run.specs.Devices.{Outputs}
use Rattle.cvr_run.specs.Job.{Job}
use Rattle.cvr_run.specs.Log.{Logs}
use Rattle.cvr_run.specs.Outcome.{run_text, run_fault, any_refused, IsWhole}
use Rattle.cvr_run.specs.Outcome.{task_text, task_refused, task_fault}
use Rattle.cvr_run.specs.Logged.{Dues, task_dues, run_lines, last_lines, IsRunCutShort, LogsSome}
use Rattle.cvr_run.specs.Logged.{LogsRun}
use Rattle.cvr_run.specs.declared.merge.MergeFault.{MergeFault}
use Rattle.cvr_words.specs.declared.request.Task.{Task}

-- how a run ends, by its status: what the output took of this text, whether the output failed, and
-- whether anything was refused
pub record Ends (old new : Taken) (text : List ℕ) (any_refused : Bool)
    (status : Status) : Type 0 where
  pub done : status ≡ Done → any_refused ≡ false
  pub refused : status ≡ Refused → any_refused ≡ true
  pub whole : IsWhole status → Appends old new text
  pub front : AppendsPrefix old new text
  pub device : status ≡ Device → new.failed ≡ true
  pub failed : new.failed ≡ true → (status ≡ Device) ⊎ (status ≡ Memory)
  pub no_words : status ≢ CommandLine

-- a run over files that were had ended with this answer: its text was printed, and what is due to
-- its files or steps was logged
pub record RanOver (text : List ℕ) (any_refused : Bool) (dues : Dues) (fault : Option MergeFault)
    (answer : Status) (old new : Outputs) : Type 0 where
  pub ends : Ends old.out new.out text any_refused answer
  pub log : LogsRun dues fault answer old new

-- the same of a task beside a definition
abbrev pub RanBeside : Frame → Task → List (List ℕ) → List (List ℕ) → Status → Outputs → Outputs
    → Type 0
RanBeside definition task paths files answer old new =
    RanOver (task_text definition task paths files) (task_refused definition task files)
    (task_dues definition task paths files) (task_fault definition task files) answer old new

-- what is printed of a job
abbrev pub job_text : Job → List ℕ
job_text job = run_text job.request.task job.def job.request.paths job.files

-- whether its definition, its task, a file or a step is refused
abbrev pub job_refused : Job → Bool
job_refused job = any_refused job.request.task job.def job.files

-- what is logged of it, where memory suffices
abbrev pub job_lines : Job → Bool → List ℕ
job_lines job out_failed =
    run_lines job.request.task job.request.def job.def job.request.paths job.files
    ++ last_lines (run_fault job.request.task job.def job.files) out_failed

-- a run over a job ended with this answer: its text was printed, and its lines were logged; or
-- memory ran out, and the log says what it could
pub record Ran (job : Job) (answer : Status) (old new : Outputs) : Type 0 where
  pub ends : Ends old.out new.out (job_text job) (job_refused job) answer
  pub log : answer ≢ Memory → Logs old.log new.log (job_lines job new.out.failed)
  pub cut_short : answer ≡ Memory → LogsSome (IsRunCutShort job new.out.failed) old.log new.log
