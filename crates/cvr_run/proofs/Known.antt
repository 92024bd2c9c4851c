-- A run over an opener that says what stands at each path.
use Rattle.std.proofs.Common.{◌≡◌, ◌≢◌, ℕ, List, [], ◌∷◌, ◌++◌, map, ◌⊎◌, inl, inr, refl, ◌∙◌, subst}
use Rattle.std.proofs.Common.{sym, arith}
use Rattle.cvr_words.specs.declared.request.Request.{Request}
use Rattle.cvr_run.specs.declared.status.Status.{Status}
use Rattle.cvr_run.specs.declared.status.Status.TheVariants.{CommandLine, Device, Memory}
use Rattle.cvr_run.specs.declared.file.FileFault.{FileFault}
use Rattle.cvr_run.specs.declared.file.FileFault.TheVariants as fault
use Rattle.cvr_run.specs.Answered.{Does}
use Rattle.cvr_run.specs.Devices.{Devices, outputs}
use Rattle.cvr_run.specs.Ends.{Ends, Ran}
use Rattle.cvr_run.specs.HeldBytes.{held_part}
use Rattle.cvr_run.specs.Job.{Job}
use Rattle.cvr_run.specs.Log.{Logs}
use Rattle.cvr_run.specs.Opening.{At, Opener, Has, IsRead, AreRead, AreAt}
use Rattle.cvr_run.specs.Outcome.{run_text, run_fault, any_refused, IsWhole}
use Rattle.cvr_run.specs.Logged.{run_lines, last_lines}
use Rattle.cvr_run.specs.Worked.{Runs, Stop, Stops, Unread, NoRoom, stop_status}
use Rattle.cvr_run.specs.Worked.{unread_status}
use Rattle.cvr_run.proofs.HeldBytes.{held_text, held_lines, held_fault, held_refused}

-- ---- a run that has printed its text has not failed

pub not_whole : (answer : Status) → (answer ≡ Device) ⊎ (answer ≡ Memory) → IsWhole answer → ⊥
not_whole answer h h' = grind arith

unread_stops : (cause : FileFault) → (unread_status cause ≡ Device) ⊎ (unread_status cause ≡ Memory)
unread_stops fault.Device = inl refl
unread_stops fault.Memory = inr refl

pub unread_answer : (cause : FileFault) (answer : Status) → answer ≡ unread_status cause
    → (answer ≡ Device) ⊎ (answer ≡ Memory)
unread_answer cause answer is =
    subst (λ s. (s ≡ Device) ⊎ (s ≡ Memory)) (sym is) (unread_stops cause)

stop_answer : (stop : Stop) → (stop_status stop ≡ Device) ⊎ (stop_status stop ≡ Memory)
stop_answer (Unread path cause) = unread_stops cause
stop_answer NoRoom = inr refl

-- nor has one that stops
pub stopped : (old new : Opener) (paths : List (List ℕ)) (answer : Status) (line : List ℕ)
    → Stops old new paths answer line → (answer ≡ Device) ⊎ (answer ≡ Memory)
stopped old new paths answer line stops =
    subst (λ s. (s ≡ Device) ⊎ (s ≡ Memory)) (sym stops.status) (stop_answer stops.stop)

-- ---- what was read is what is held of the files

pub read_known : (at : List ℕ → At) (paths read files : List (List ℕ)) → AreRead at paths read
    → AreAt at paths files → read ≡ map held_part files
read_known at [] [] [] are there = refl
read_known at [] [] (file ∷ files) are there = absurd (cc)
read_known at [] (r ∷ read) files are there = absurd are
read_known at (path ∷ paths) [] files are there = absurd are
read_known at (path ∷ paths) (r ∷ read) [] are there = absurd (cc)
read_known at (path ∷ paths) (r ∷ read) (file ∷ files) are there =
    let here : at path ≡ Has file = cc in
    let rest : map at paths ≡ map Has files = cc in
    let is : r ≡ held_part file = subst (λ said. IsRead said r) here are.0 in
    let more : read ≡ map held_part files = read_known at paths read files are.1 rest in
    λ i. is i ∷ more i

-- ---- a run over what was read is one over the files

module _ (request : Request) (answer : Status) (old new : Devices)
    (run : Runs request answer old new)
    (def : List ℕ) (files : List (List ℕ))
    (there : AreAt old.opener.at (request.def ∷ request.paths) (def ∷ files)) where
  all_read : run.def ∷ run.files ≡ held_part def ∷ map held_part files
  all_read = read_known old.opener.at (request.def ∷ request.paths) (run.def ∷ run.files)
      (def ∷ files) run.read there

  def_read : run.def ≡ held_part def
  def_read = let is = all_read in cc

  files_read : run.files ≡ map held_part files
  files_read = let is = all_read in cc

  text_is : run_text request.task run.def request.paths run.files
      ≡ run_text request.task def request.paths files
  text_is = (λ i. run_text request.task (def_read i) request.paths (files_read i))
      ∙ held_text request.task def request.paths files

  lines_are : run_lines request.task request.def run.def request.paths run.files
      ≡ run_lines request.task request.def def request.paths files
  lines_are = (λ i. run_lines request.task request.def (def_read i) request.paths (files_read i))
      ∙ held_lines request.task request.def def request.paths files

  fault_is : run_fault request.task run.def run.files ≡ run_fault request.task def files
  fault_is = (λ i. run_fault request.task (def_read i) (files_read i))
      ∙ held_fault request.task def files

  refused_is : any_refused request.task run.def run.files ≡ any_refused request.task def files
  refused_is = (λ i. any_refused request.task (def_read i) (files_read i))
      ∙ held_refused request.task def files

  ran_known : IsWhole answer → Ran (record { request = request; def = def; files = files }) answer
      (outputs old) (outputs new)
  ran_known whole = record {
    ends =
        subst (λ text. Ends old.out new.out text (any_refused request.task def files) answer)
        text_is
        (subst (λ refused. Ends old.out new.out
        (run_text request.task run.def request.paths run.files) refused answer) refused_is
        run.ran.ends);
    log = λ some. subst (Logs old.log new.log)
        (λ i. lines_are i ++ last_lines (fault_is i) new.out.failed) (run.ran.log some);
    cut_short = λ memory. absurd (not_whole answer (inr memory) whole);
  }

job_known : (request : Request) (answer : Status) (old new : Devices)
    → Runs request answer old new → (job : Job) → job.request ≡ request
    → AreAt old.opener.at (job.request.def ∷ job.request.paths) (job.def ∷ job.files)
    → IsWhole answer → Ran job answer (outputs old) (outputs new)
job_known request answer old new run job is there whole =
    subst (λ (q : Request). Ran (record { request = q; def = job.def; files = job.files }) answer
    (outputs old) (outputs new)) (sym is)
    (ran_known request answer old new run job.def job.files
    (subst (λ (q : Request). AreAt old.opener.at (q.def ∷ q.paths) (job.def ∷ job.files)) is
    there) whole)

-- a request that was done ended as refused words do not
pub done_by_words : (request : Request) (answer : Status) (old new : Devices) (unchanged : Type 0)
    → Does request answer old new unchanged → answer ≢ CommandLine
done_by_words request answer old new unchanged (inl (same, (line, stops, logs))) =
    other answer (stopped _ _ _ _ _ stops)
  where
    other : (answer : Status) → (answer ≡ Device) ⊎ (answer ≡ Memory) → answer ≢ CommandLine
    other answer (inl is) = λ e. cc
    other answer (inr is) = λ e. cc
done_by_words request answer old new unchanged (inr run) = run.ran.ends.no_words

-- and is known, where it is whole
pub done_known : (request : Request) (answer : Status) (old new : Devices) (unchanged : Type 0)
    → Does request answer old new unchanged → (job : Job) → job.request ≡ request
    → AreAt old.opener.at (job.request.def ∷ job.request.paths) (job.def ∷ job.files)
    → IsWhole answer → Ran job answer (outputs old) (outputs new)
done_known request answer old new unchanged (inl (same, (line, stops, logs))) job is there whole =
    absurd (not_whole answer (stopped _ _ _ _ _ stops) whole)
done_known request answer old new unchanged (inr run) job is there whole =
    job_known request answer old new run job is there whole
