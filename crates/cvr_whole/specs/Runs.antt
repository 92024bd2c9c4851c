-- Whole runs: those over the same files took the same bytes and have one status, and which status
-- it is. (This project's own.)
use Rattle.std.specs.Prelude.{◌≡◌, ◌↔◌, ℕ, List, [], true, Some, None, ⊤}
use Rattle.std.specs.List.{Contains}
use Rattle.cdf_types.specs.Device.{Appends}
use Rattle.cdf_definition.specs.Acceptance.{Sound, Valid, frame_in}
use Rattle.cdf_check.specs.Same.{IsOne}
use Rattle.cvr_words.specs.Request.{takes_files}
use Rattle.cvr_words.specs.declared.request.Task.{Task}
use Rattle.cvr_words.specs.declared.request.Task.TheVariants.{Check, Drill}
use Rattle.cvr_run.specs.declared.status.Status.{Status}
use Rattle.cvr_run.specs.declared.status.Status.TheVariants.{Done}
use Rattle.cvr_run.specs.Devices.{Outputs}
use Rattle.cvr_run.specs.Ends.{Ran, job_text}
use Rattle.cvr_run.specs.Job.{Job}
use Rattle.cvr_run.specs.Laws.{HaveSameValues, HaveSameBytes}
use Rattle.cvr_run.specs.Outcome.{IsWhole, task_fault}

-- a whole run over a job: its status, and its outputs before it and after it
pub record WholeRun (job : Job) : Type 0 where
  pub status : Status
  pub old : Outputs
  pub new : Outputs
  pub ran : Ran job status old new
  pub whole : IsWhole status

-- each job may have one, whose output took its text
abbrev pub MayBeWholeLaw : Type 0
MayBeWholeLaw = (job : Job) → (run : WholeRun job)
    × (run.old.out.bytes ≡ Some []) × (run.new.out.bytes ≡ Some (job_text job))

-- ---- the same bytes

-- the task prints what all files hold: `check` goes file by file, `drill` step by step
abbrev pub IsOfAllFiles : Task → Type 0
IsOfAllFiles Check = ⊥
IsOfAllFiles (Drill offices steps) = ⊥
IsOfAllFiles task = ⊤

-- the files of two definitions that are one
pub record AreOneDefinition (def other : List ℕ) : Type 0 where
  pub sound : Sound def
  pub other_sound : Sound other
  pub one : IsOne (frame_in def) (frame_in other)

-- one task, over definitions that are one, and over files whose accepted ones have the same values
pub record HaveSameInput (job other : Job) : Type 0 where
  pub task : job.request.task ≡ other.request.task
  pub definition : AreOneDefinition job.def other.def
  pub files : HaveSameValues (frame_in job.def) job.files other.files

-- then the outputs of two whole runs took the same bytes
abbrev pub SameBytesLaw : Type 0
SameBytesLaw = (job other : Job) (run : WholeRun job) (again : WholeRun other)
    → IsOfAllFiles job.request.task → HaveSameInput job other
    → (text : List ℕ) × Appends run.old.out run.new.out text
    × Appends again.old.out again.new.out text

-- ---- one status

-- one task, over one definition and the same files, in any order and however often
pub record AreOneJob (job other : Job) : Type 0 where
  pub task : job.request.task ≡ other.request.task
  pub definition : job.def ≡ other.def
  pub files : HaveSameBytes job.files other.files

-- then two whole runs have one status; a drill depends on the order of its steps
abbrev pub SameStatusLaw : Type 0
SameStatusLaw = (job other : Job) (run : WholeRun job) (again : WholeRun other)
    → takes_files job.request.task ≡ true → AreOneJob job other → run.status ≡ again.status

-- nothing is to be refused: the definition is sound, each file is valid, and `merge` has no fault
pub record IsClean (job : Job) : Type 0 where
  pub sound : Sound job.def
  pub valid : (file : List ℕ) → Contains job.files file → Valid (frame_in job.def) file
  pub no_fault : task_fault (frame_in job.def) job.request.task job.files ≡ None

-- a whole run is Done exactly where that is so
abbrev pub CleanRunLaw : Type 0
CleanRunLaw = (job : Job) (run : WholeRun job) → takes_files job.request.task ≡ true
    → run.status ≡ Done ↔ IsClean job
