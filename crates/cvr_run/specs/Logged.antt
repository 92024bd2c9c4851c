-- What a run logs: a line for each refused file or step, and what stands in its place where memory
-- ran out. (This project's own.)
use Rattle.std.specs.Prelude.{◌≡◌, ◌≢◌, ◌⊎◌, ◌&&◌, ◌||◌, ℕ, List, [], ◌∷◌, ◌++◌, length, map}
use Rattle.std.specs.Prelude.{codes, Bool, true, false, if◌then◌else◌, Option, Some}
use Rattle.std.specs.Prelude.{None}
use Rattle.std.specs.Prelude.{is_some}
use Rattle.std.specs.List.{flat_map, list_any, zip}
use Rattle.std.specs.Option.{option_map_or}
use Rattle.cdf_types.specs.Device.{Taken}
use Rattle.cdf_definition.specs.Frame.{Frame}
use Rattle.cdf_definition.specs.Acceptance.{frame_in, first_refusal, first_unsound}
use Rattle.cvr_office.specs.declared.event.Cause.{Cause}
use Rattle.cvr_run.specs.declared.refusals.Refusals.{Refusals}
use Rattle.cvr_run.specs.declared.status.Status.{Status}
use Rattle.cvr_run.specs.declared.status.Status.TheVariants.{Memory}
use Rattle.cvr_words.specs.declared.request.Step.{Step}
use Rattle.cvr_words.specs.declared.request.Task.{Task}
use Rattle.cvr_words.specs.declared.request.Task.TheVariants.{Drill}
use Rattle.cvr_run.specs.Accepted.{is_unsound}
use Rattle.cvr_run.specs.declared.merge.MergeFault.{MergeFault}
use Rattle.cvr_run.specs.Devices.{Outputs}
use Rattle.cvr_run.specs.Drill.{step_texts, step_dues}
use Rattle.cvr_run.specs.Job.{Job}
use Rattle.cvr_run.specs.Log.{cause_line, memory_line, has_path_in, Logs}
use Rattle.cvr_run.specs.Merge.{merge_lines}
use Rattle.cvr_run.specs.Outcome.{run_fault}
use Rattle.cvr_run.specs.Refusals.{Due, file_due}

-- ---- where memory did not run out

-- the line of what is refused for this cause, or nothing where there is none
abbrev pub refusal_line : List ℕ → Option Cause → List ℕ
refusal_line what None = []
refusal_line what (Some cause) = cause_line what cause

-- the lines of files or of steps, by their texts and what is due to them, in order
abbrev pub refusal_lines : List (List ℕ) → List Due → List ℕ
refusal_lines texts dues = flat_map (λ one. refusal_line one.0 one.1.cause) (zip texts dues)

-- what is due to each file beside a definition
abbrev pub file_dues : Frame → List (List ℕ) → List Due
file_dues definition files = map (λ file. file_due (first_refusal definition file)) files

-- the files or steps of a run by the texts of their lines, and what is due to each
pub record Dues : Type 0 where
  pub texts : List (List ℕ)
  pub dues : List Due

-- the files of an import, in order
abbrev pub import_dues : Frame → List (List ℕ) → List (List ℕ) → Dues
import_dues definition paths files =
    record { texts = paths; dues = file_dues definition files }

-- the steps of a drill among so many offices
abbrev pub drill_dues : Frame → ℕ → List (List ℕ) → List Step → Dues
drill_dues definition n files steps =
    record { texts = step_texts steps; dues = step_dues definition n files steps }

-- the files or steps of a task
abbrev pub task_dues : Frame → Task → List (List ℕ) → List (List ℕ) → Dues
task_dues definition (Drill n steps) paths files = drill_dues definition n files steps
task_dues definition task paths files = import_dues definition paths files

-- what a run logs: of the definition alone where it is refused, else of each refused file or step
abbrev pub run_lines : Task → List ℕ → List ℕ → List (List ℕ) → List (List ℕ) → List ℕ
run_lines task what def paths files =
    let of = task_dues (frame_in def) task paths files in
    if is_unsound def then refusal_line what (file_due (first_unsound def)).cause
    else refusal_lines of.texts of.dues

-- where the output has failed
abbrev pub out_line : Bool → List ℕ
out_line true = codes "out: X1\n"
out_line false = []

-- and last: the fault of a merge, or an output that has failed
abbrev pub last_lines : Option MergeFault → Bool → List ℕ
last_lines fault out_failed = merge_lines fault ++ out_line out_failed

-- ---- where memory ran out

-- how a file or a step was logged: as it is due; or by `E6` or `J2`, since memory was refused for
-- it; or by `memory`, since it was refused for the spelling of a path
pub data Logging : Type 0 where
  AsDue : Logging
  Lacking : Logging
  Unspelled : Logging

abbrev pub logged_line : Logging → List ℕ → Due → List ℕ
logged_line AsDue what due = refusal_line what due.cause
logged_line Lacking what due = refusal_line what due.want
logged_line Unspelled what due = memory_line

-- only what takes memory can run out of it, and only a line with a path can be left unspelled
abbrev pub can_be : Logging → Due → Bool
can_be AsDue due = true
can_be Lacking due = is_some due.want
can_be Unspelled due = option_map_or has_path_in due.cause false

abbrev pub is_lacking : Logging → Bool
is_lacking Lacking = true
is_lacking logging = false

abbrev pub is_unspelled : Logging → Bool
is_unspelled Unspelled = true
is_unspelled logging = false

-- whether memory ran out for it
abbrev pub is_short : Logging → Bool
is_short logging = is_lacking logging || is_unspelled logging

-- the lines of the first, as many as there are loggings
abbrev pub logged_lines : List Logging → List (List ℕ) → List Due → List ℕ
logged_lines loggings texts dues =
    flat_map (λ one. logged_line one.0 one.1.0 one.1.1) (zip loggings (zip texts dues))

-- each of them can be logged so
abbrev pub can_all : List Logging → List Due → Bool
can_all [] dues = true
can_all (logging ∷ loggings) [] = false
can_all (logging ∷ loggings) (due ∷ dues) = can_be logging due && can_all loggings dues

-- a log that took the lines of the first n of them, and what a run then keeps of its refusals
pub record LogsFirst (of : Dues) (n : ℕ) (refusals : Refusals) (old new : Taken) : Type 0 where
  pub loggings : List Logging
  pub count : length loggings ≡ n
  pub possible : can_all loggings of.dues ≡ true
  pub file_lacking : refusals.file_lacking ≡ list_any is_lacking loggings
  pub path_unspelled : refusals.path_unspelled ≡ list_any is_unspelled loggings
  pub logs : Logs old new (logged_lines loggings of.texts of.dues)

-- what stands in the log of a run that ends since memory ran out: all lines, one of them `Lacking`;
-- all, none `Lacking` but one `Unspelled`, and then the last lines; or none or all, none `Lacking`,
-- and then `memory`, where the output has not failed
pub record IsCutShort (of : Dues) (fault : Option MergeFault) (out_failed : Bool)
    (text : List ℕ) : Type 0 where
  pub loggings : List Logging
  pub possible : can_all loggings of.dues ≡ true
  pub ends : ((length loggings ≡ length of.dues) × (list_any is_lacking loggings ≡ true)
      × (text ≡ logged_lines loggings of.texts of.dues))
      ⊎ ((length loggings ≡ length of.dues) × (list_any is_lacking loggings ≡ false)
      × (list_any is_unspelled loggings ≡ true)
      × (text ≡ logged_lines loggings of.texts of.dues ++ last_lines fault out_failed))
      ⊎ (((length loggings ≡ 0) ⊎ (length loggings ≡ length of.dues))
      × (list_any is_lacking loggings ≡ false)
      × (out_failed ≡ false)
      × (text ≡ logged_lines loggings of.texts of.dues ++ memory_line))

-- the same of a whole run, that of the definition included
abbrev pub IsRunCutShort : Job → Bool → List ℕ → Type 0
IsRunCutShort job out_failed text =
    let task = job.request.task in
    let due = file_due (first_unsound job.def) in
    ((logging : Logging) × (can_be logging due ≡ true) × (is_short logging ≡ true)
    × (text ≡ logged_line logging job.request.def due))
    ⊎ ((is_unsound job.def ≡ false)
    × IsCutShort (task_dues (frame_in job.def) task job.request.paths job.files)
    (run_fault task job.def job.files) out_failed text)

-- the log took a text of which this holds
abbrev pub LogsSome : (List ℕ → Type 0) → Taken → Taken → Type 0
LogsSome P old new = (text : List ℕ) × P text × Logs old new text

-- of the files or steps of a run that ended so, what the log took; the fault of a merge and a
-- failed output come last
pub record LogsRun (of : Dues) (fault : Option MergeFault) (answer : Status)
    (old new : Outputs) : Type 0 where
  pub log : answer ≢ Memory
      → Logs old.log new.log (refusal_lines of.texts of.dues ++ last_lines fault new.out.failed)
  pub cut_short : answer ≡ Memory → LogsSome (IsCutShort of fault new.out.failed) old.log new.log
