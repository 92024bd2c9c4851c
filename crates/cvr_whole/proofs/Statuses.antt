-- The status of a whole run is that of its files.
use Rattle.std.proofs.Common.{◌≡◌, ℕ, List, Bool, true, false, inl, inr, refl}
use Rattle.std.proofs.Common.{sym, ap, ◌∙◌, arith}
use Rattle.std.proofs.lemmas.Bool.{false≢true, false_from_ne_true, or_from, or_parts}
use Rattle.std.proofs.option.Match.{None-if_not_some}
use Rattle.std.specs.Prelude.{◌||◌, ◌↔◌, is_some}
use Rattle.std.specs.List.{Contains, list_any}
use Rattle.std.specs.Cmp.{both_ways}
use Rattle.cdf_definition.specs.Frame.{Frame}
use Rattle.cdf_definition.specs.Acceptance.{first_refusal, first_unsound, frame_in}
use Rattle.cdf_definition.proofs.Laws.{sound_file, valid_file}
use Rattle.cvr_words.specs.Request.{takes_files}
use Rattle.cvr_words.specs.declared.request.Task.{Task}
use Rattle.cvr_run.specs.Accepted.{is_refused, is_unsound}
use Rattle.cvr_run.specs.Ends.{job_refused}
use Rattle.cvr_run.specs.Job.{Job}
use Rattle.cvr_run.specs.Laws.{HaveSameBytes}
use Rattle.cvr_run.specs.Outcome.{content_of_files, facts_fault, task_fault, files_refused}
use Rattle.cvr_run.specs.Outcome.{task_refused, any_refused}
use Rattle.cvr_run.proofs.Laws.{same_held, by_bytes}
use Rattle.cvr_whole.specs.Runs.{WholeRun, SameStatusLaw, IsClean, CleanRunLaw}
use Rattle.cvr_whole.proofs.Runs.{status_of}
use Rattle.cvr_facts.proofs.Lemmas.{one_that_passes, passes_by}

-- it says whether anything is refused
ends_as : (job : Job) (run : WholeRun job) (refused : Bool) → job_refused job ≡ refused
    → run.status ≡ status_of refused
ends_as job run true is = elim run.whole [
  | inl done ↦ absurd (false≢true (sym (run.ran.ends.done done) ∙ is))
  | inr refused ↦ refused
]
ends_as job run false is = elim run.whole [
  | inl done ↦ done
  | inr refused ↦ absurd (false≢true (sym is ∙ run.ran.ends.refused refused))
]

of_files : (definition : Frame) (task : Task) (files : List (List ℕ)) → takes_files task ≡ true
    → task_refused definition task files ≡ files_refused definition task files
of_files definition task files takes = grind arith

-- ---- the same files

any_same : {X : Type 0} (test : X → Bool) (xs ys : List X)
    → ((x : X) → Contains xs x ↔ Contains ys x) → list_any test xs ≡ list_any test ys
any_same test xs ys same =
    both_ways (list_any test xs) (list_any test ys)
    (λ h. let w = one_that_passes test xs h in passes_by test ys w.0 ((same w.0).0 w.1) w.2)
    (λ h. let w = one_that_passes test ys h in passes_by test xs w.0 ((same w.0).1 w.1) w.2)

files_same : (definition : Frame) (task : Task) (files others : List (List ℕ))
    → HaveSameBytes files others
    → files_refused definition task files ≡ files_refused definition task others
files_same definition task files others same =
    ap (λ s. is_some (facts_fault definition task s) || list_any (is_refused definition) files)
    (same_held definition files others (by_bytes definition files others same))
    ∙ ap (λ b. is_some (facts_fault definition task (content_of_files definition others)) || b)
    (any_same (is_refused definition) files others same)

pub same_status : SameStatusLaw
same_status job other run again takes same =
    let definition = frame_in job.def in
    let refused : job_refused job ≡ job_refused other =
    ap (λ b. is_unsound job.def || b) (of_files definition job.request.task job.files takes
    ∙ (files_same definition job.request.task job.files other.files same.files
    ∙ sym (of_files definition job.request.task other.files takes)))
    ∙ (λ i. any_refused (same.task i) (same.definition i) other.files) in
    ends_as job run (job_refused other) refused ∙ sym (ends_as other again (job_refused other) refl)

-- ---- a clean run

clean : (job : Job) → takes_files job.request.task ≡ true → job_refused job ≡ false → IsClean job
clean job takes none =
    let definition = frame_in job.def in
    let task = job.request.task in
    let parts = or_parts (is_unsound job.def) (task_refused definition task job.files) none in
    let files = or_parts (is_some (task_fault definition task job.files))
    (list_any (is_refused definition) job.files)
    (sym (of_files definition task job.files takes) ∙ parts.1) in
    record {
      sound = (sound_file job.def).0 (None-if_not_some (first_unsound job.def) parts.0);
      valid = λ file at. (valid_file definition file).0
          (None-if_not_some (first_refusal definition file)
          (false_from_ne_true (is_refused definition file) (λ is. false≢true (sym files.1
          ∙ passes_by (is_refused definition) job.files file at is))));
      no_fault = None-if_not_some (task_fault definition task job.files) files.0;
    }

not_refused : (job : Job) → takes_files job.request.task ≡ true → IsClean job
    → job_refused job ≡ false
not_refused job takes is =
    let definition = frame_in job.def in
    let task = job.request.task in
    let sound : is_unsound job.def ≡ false = ap is_some ((sound_file job.def).1 is.sound) in
    let files : list_any (is_refused definition) job.files ≡ false =
    false_from_ne_true (list_any (is_refused definition) job.files) (λ h.
    let one = one_that_passes (is_refused definition) job.files h in
    let none : is_refused definition one.0 ≡ false =
    ap is_some ((valid_file definition one.0).1 (is.valid one.0 one.1)) in
    false≢true (sym none ∙ one.2)) in
    or_from (is_unsound job.def) (task_refused definition task job.files) sound
    (of_files definition task job.files takes
    ∙ or_from (is_some (task_fault definition task job.files))
    (list_any (is_refused definition) job.files) (ap is_some is.no_fault) files)

pub clean_run : CleanRunLaw
clean_run job run takes = (
  λ done. clean job takes (run.ran.ends.done done),
  λ is. ends_as job run false (not_refused job takes is),
)
