-- How the program answers its words: it does the request that they ask for, or says why they ask
-- for none. (This project's own.)
use Rattle.std.specs.Prelude.{◌≡◌, ◌⊎◌, ℕ, List, [], ◌∷◌, ◌++◌, codes, string_bytes, Bool, true}
use Rattle.std.specs.Prelude.{false, if◌then◌else◌}
use Rattle.cdf_types.specs.Device.{Appends, AppendsPrefix}
use Rattle.cvr_words.specs.Fault.{IsLoggedFault}
use Rattle.cvr_words.specs.Line.{with_program}
use Rattle.cvr_words.specs.Request.{IsRequest}
use Rattle.cvr_words.specs.declared.fault.LoggedFault.{LoggedFault}
use Rattle.cvr_words.specs.declared.fault.LoggedFault.TheVariants.{Refused, Help, BadStep, Memory}
use Rattle.cvr_words.specs.declared.request.Request.{Request}
use Rattle.cvr_run.specs.declared.status.Status.{Status}
use Rattle.cvr_run.specs.declared.status.Status.TheVariants as status
use Rattle.cvr_run.specs.Devices.{Devices, Outputs, outputs}
use Rattle.cvr_run.specs.Job.{Job}
use Rattle.cvr_run.specs.Log.{memory_line, Logs}
use Rattle.cvr_run.specs.Opening.{At, AreAt, Opens}
use Rattle.cvr_run.specs.Logged.{out_line, LogsSome}
use Rattle.cvr_run.specs.Worked.{Stops, Runs}

-- ---- words that ask for no request

-- whether clap answered help
abbrev pub is_help : LoggedFault → Bool
is_help (Help text) = true
is_help fault = false

-- what is printed: help alone
abbrev pub help_text : LoggedFault → List ℕ
help_text (Help text) = string_bytes text
help_text fault = []

-- the line of a step that has no form
abbrev pub bad_step_line : List ℕ → List ℕ
bad_step_line step = step ++ codes ": L3\n"

-- what is logged: what is wrong with the words, or the step that has no form; of help nothing,
-- unless the output has failed
abbrev pub words_line : LoggedFault → Bool → List ℕ
words_line (Refused text) out_failed = string_bytes text
words_line (Help text) out_failed = out_line out_failed
words_line (BadStep place step) out_failed = bad_step_line step
words_line Memory out_failed = memory_line

-- the status for words that ask for no request
abbrev pub words_status : LoggedFault → Bool → Status
words_status (Refused text) out_failed = status.CommandLine
words_status (Help text) out_failed = if out_failed then status.Device else status.Done
words_status (BadStep place step) out_failed = status.CommandLine
words_status Memory out_failed = status.Memory

-- the fault is answered, and printed or logged; but for help the output stays unchanged
pub record LogsWords (fault : LoggedFault) (answer : Status) (old new : Outputs)
    (unchanged : Type 0) : Type 0 where
  pub status : answer ≡ words_status fault new.out.failed
  pub quiet : is_help fault ≡ false → unchanged
  pub whole : new.out.failed ≡ false → Appends old.out new.out (help_text fault)
  pub front : AppendsPrefix old.out new.out (help_text fault)
  pub log : Logs old.log new.log (words_line fault new.out.failed)

-- ---- words that ask for one

-- its run stops at a file that is not read, and the output stays unchanged; or it runs over the
-- files
abbrev pub Does : Request → Status → Devices → Devices → Type 0 → Type 0
Does request answer old new unchanged =
    (unchanged × LogsSome (Stops old.opener new.opener (request.def ∷ request.paths) answer) old.log
    new.log)
    ⊎ Runs request answer old new

-- ---- both

-- the words ask for a request, which is done; or they ask for none: that is printed or logged, and
-- nothing is opened
abbrev pub Answers : List (List ℕ) → Status → Devices → Devices → Type 0 → Type 0
Answers words answer old new unchanged =
    ((request : Request) × IsRequest (with_program words) request
    × Does request answer old new unchanged)
    ⊎ ((fault : LoggedFault) × IsLoggedFault (with_program words) fault
    × Opens old.opener new.opener [] × LogsWords fault answer (outputs old) (outputs new) unchanged)

-- the words ask for the request of a job, and its files stand at the paths
pub record IsGiven (at : List ℕ → At) (words : List (List ℕ)) (job : Job) : Type 0 where
  pub asked : IsRequest (with_program words) job.request
  pub there : AreAt at (job.request.def ∷ job.request.paths) (job.def ∷ job.files)
