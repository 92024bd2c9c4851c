-- What a run keeps of what happened, beside what it prints and logs. (This project's own.)
use Rattle.std.specs.Prelude.{◌≡◌, ℕ, List, [], map, length, Option, Some, None, IfSome}
use Rattle.std.specs.Prelude.{◌∷◌, ◌++◌, suc, if◌then◌else◌}
use Rattle.cdf_types.specs.declared.fault.ReadFault.TheVariants.{NotJson}
use Rattle.cdf_definition.specs.Acceptance.{first_unsound, frame_in}
use Rattle.cvr_fact_types.specs.Facts.{Facts}
use Rattle.cvr_office.specs.declared.conflict.Conflict.{Conflict}
use Rattle.cvr_office.specs.Names.{conflicts}
use Rattle.cvr_office.specs.declared.event.Cause.{Cause}
use Rattle.cvr_office.specs.declared.event.Cause.TheVariants.{Read}
use Rattle.cvr_office.specs.declared.event.Outcome.{Outcome}
use Rattle.cvr_office.specs.declared.event.Outcome.TheVariants.{Accepted, Refused}
use Rattle.cvr_run.specs.declared.happened.Happened.{Happened}
use Rattle.cvr_words.specs.declared.request.Task.{Task}
use Rattle.cvr_run.specs.Accepted.{is_unsound}
use Rattle.cvr_run.specs.Job.{Job}
use Rattle.cvr_run.specs.Outcome.{content_of_files}
use Rattle.cvr_run.specs.Refusals.{Due, cause_in, file_due, is_refusal}
use Rattle.cvr_run.specs.Logged.{task_dues}

-- the cause for which each is refused, if there is one
abbrev pub causes : List Due → List (Option Cause)
causes dues = map (λ due. due.cause) dues

-- the definition was accepted; this was due to each file or step, in order; and the names with
-- several texts were counted among these facts, or not counted
pub record AreNoted (happened : Happened) (dues : List Due) (facts : Facts) : Type 0 where
  pub definition : happened.definition ≡ None
  pub outcomes : map cause_in happened.outcomes.items ≡ causes dues
  pub several : IfSome happened.several (λ n. n ≡ length (conflicts facts))

-- ---- of a job

-- what is due to the files or steps of a run: to none where the definition is refused
abbrev pub run_dues : Task → List ℕ → List (List ℕ) → List (List ℕ) → List Due
run_dues task def paths files =
    if is_unsound def then [] else (task_dues (frame_in def) task paths files).dues

-- the names with several texts among the files of a run: none where the definition is refused
abbrev pub run_conflicts : List ℕ → List (List ℕ) → List Conflict
run_conflicts def files =
    if is_unsound def then [] else conflicts (content_of_files (frame_in def) files)

-- why the definition of a job was refused, if it was; why each of its files or steps was, in order;
-- and how many names have several texts, if that was counted
pub record Happens (job : Job) (happened : Happened) : Type 0 where
  pub definition : happened.definition ≡ (file_due (first_unsound job.def)).cause
  pub outcomes : map cause_in happened.outcomes.items
      ≡ causes (run_dues job.request.task job.def job.request.paths job.files)
  pub several : IfSome happened.several (λ n. n ≡ length (run_conflicts job.def job.files))

-- the same, with the request of the job
pub record IsNoted (job : Job) (happened : Happened) : Type 0 where
  pub request : happened.request ≡ Some job.request
  pub happens : Happens job happened

-- ---- the refused

-- the places of the files or steps that were refused, of which the first has this place
abbrev pub refused_places : ℕ → List Outcome → List ℕ
refused_places place [] = []
refused_places place (outcome ∷ outcomes) =
    (if is_refusal outcome then place ∷ [] else []) ++ refused_places (suc place) outcomes

-- of five, the second and the fourth
abbrev pub SecondAndFourth : Type 0
SecondAndFourth =
    let refused = Refused (Read NotJson) in
    refused_places 0 (Accepted 1 ∷ refused ∷ Accepted 0 ∷ refused ∷ Accepted 2 ∷ []) ≡ 1 ∷ 3 ∷ []
