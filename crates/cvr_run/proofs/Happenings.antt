-- What a run keeps of what happened.
use Rattle.std.proofs.Common.{◌≡◌, ◌∙◌, ℕ, suc, ◌<◌, List, [], ◌∷◌, length, map, get_or, false}
use Rattle.std.proofs.Common.{◌||◌, Option, Some, None, IfSome, inr, refl, sym, ap, subst, arith}
use Rattle.std.proofs.Common.{true≢false}
use Rattle.std.specs.Prelude.{if◌then◌else◌, is_some}
use Rattle.std.specs.List.{list_any}
use Rattle.std.specs.Option.{option_map_or}
use Rattle.std.proofs.lemmas.Bool.{or_parts}
use Rattle.cdf_types.specs.declared.fault.ReadFault.{ReadFault}
use Rattle.cdf_types.specs.declared.fault.ReadFault.TheVariants.{Memory}
use Rattle.cdf_definition.specs.Acceptance.{Sound, first_unsound, frame_in}
use Rattle.cdf_definition.specs.Frame.{Frame}
use Rattle.cvr_fact_types.specs.Facts.{Facts}
use Rattle.cvr_office.specs.Names.{conflicts}
use Rattle.cvr_office.specs.declared.event.Cause.{Cause}
use Rattle.cvr_office.specs.declared.event.Cause.TheVariants.{Read}
use Rattle.cvr_office.specs.declared.event.Outcome.{Outcome}
use Rattle.cvr_office.specs.declared.event.Outcome.TheVariants.{Accepted}
use Rattle.cvr_words.specs.declared.request.Request.{Request}
use Rattle.cvr_run.specs.declared.given.Files.{Files}
use Rattle.cvr_run.specs.declared.given.Files.TheVariants.{Lent, Opened}
use Rattle.cvr_run.specs.declared.happened.Happened.{Happened}
use Rattle.cvr_run.specs.declared.refusals.Refusals.{Refusals}
use Rattle.cvr_run.specs.declared.status.Status.{Status}
use Rattle.cvr_run.specs.Given.{StopsAmong}
use Rattle.cvr_run.specs.Happened.{causes, run_conflicts, Happens, IsNoted, AreNoted}
use Rattle.cvr_run.specs.HeldBytes.{held_part}
use Rattle.cvr_run.specs.Job.{Job}
use Rattle.cvr_run.specs.Opening.{At, Opener, AreAt, AreRead}
use Rattle.cvr_run.specs.Outcome.{content_of_files, IsWhole}
use Rattle.cvr_run.specs.Refusals.{cause_in, file_due, is_memory, is_want, no_due, status_of}
use Rattle.cvr_run.specs.Refusals.{wants_memory, AreDue, Due, IsDue}
use Rattle.cvr_run.specs.Logged.{task_dues}
use Rattle.cvr_run.proofs.Accepted.{is_sound, sound_first}
use Rattle.cvr_run.proofs.HeldBytes.{held_conflicts, held_dues, held_unsound}
use Rattle.cvr_run.proofs.Known.{not_whole, read_known, stopped}
use Rattle.cvr_run.proofs.Logging.{status_whole}

-- ---- what became of files or steps

one_cause : (due : Due) (cause : Option Cause) → IsDue due cause
    → option_map_or wants_memory cause false ≡ false → cause ≡ due.cause
one_cause due None is working = sym is
one_cause due (Some cause) is working =
    sym (ap (λ want. if want then due.want else due.cause) (sym working) ∙ is)

each_cause : (dues : List Due) (rs : List Outcome) → length dues ≡ length rs
    → ((k : ℕ) → k < length rs → IsDue (get_or dues k no_due) (cause_in (get_or rs k (Accepted 0))))
    → list_any is_want rs ≡ false → map cause_in rs ≡ causes dues
each_cause [] [] same each working = refl
each_cause [] (r ∷ rs) same each working = absurd (omega arith)
each_cause (due ∷ dues) [] same each working = absurd (omega arith)
each_cause (due ∷ dues) (r ∷ rs) same each working =
    let parts = or_parts (is_want r) (list_any is_want rs) working in
    let here = one_cause due (cause_in r) (each 0 (omega arith)) parts.0 in
    let rest =
    each_cause dues rs (omega arith) (λ k lt. each (suc k) (omega (arith, lt))) parts.1 in
    λ i. here i ∷ rest i

-- they were refused as is due, unless memory ran out for one
pub keeps_due : (happened : Happened) (dues : List Due) (facts : Facts) (rs : List Outcome)
    → AreDue dues rs → list_any is_want rs ≡ false → happened.definition ≡ None
    → happened.outcomes.items ≡ rs → IfSome happened.several (λ n. n ≡ length (conflicts facts))
    → AreNoted happened dues facts
keeps_due happened dues facts rs due working none are several = record {
  definition = none;
  outcomes = ap (map cause_in) are ∙ each_cause dues rs due.count due.each working;
  several = several;
}

-- what holds of no number
pub uncounted : (several : Option ℕ) (P : ℕ → Type 0) → several ≡ None → IfSome several P
uncounted several P none = subst (λ o. IfSome o P) (sym none) tt

-- ---- where a run stops

pub stops_not_whole : (from : Files) (old new : Opener) (paths : List (List ℕ)) (answer : Status)
    (line : List ℕ) → StopsAmong from old new paths answer line → IsWhole answer → ⊥
stops_not_whole (Lent files) old new paths answer line stops whole =
    not_whole answer (inr stops.0) whole
stops_not_whole Opened old new paths answer line stops whole =
    not_whole answer (stopped old new paths answer line stops) whole

-- ---- jobs

-- beside a definition that is accepted
pub happens_beside : (request : Request) (def : List ℕ) (definition : Frame)
    (files : List (List ℕ)) (happened : Happened) → Sound def → definition ≡ frame_in def
    → AreNoted happened (task_dues definition request.task request.paths files).dues
    (content_of_files definition files)
    → Happens (record { request = request; def = def; files = files }) happened
happens_beside request def definition files happened sound is keeps = record {
  definition = keeps.definition ∙ ap (λ o. (file_due o).cause) (sym (sound_first def sound));
  outcomes = keeps.outcomes
      ∙ (ap (λ d. causes (task_dues d request.task request.paths files).dues) is
      ∙ rw (is_sound def sound) refl);
  several = subst (λ cs. IfSome happened.several (λ n. n ≡ length cs))
      (ap (λ d. conflicts (content_of_files d files)) is ∙ rw (is_sound def sound) refl)
      keeps.several;
}

-- where the definition is refused
pub happens_refused : (request : Request) (def : List ℕ) (files : List (List ℕ)) (fault : ReadFault)
    (none r : Refusals) (answer : Status) (happened : Happened) → IsWhole answer
    → ((fault ≡ Memory → ⊥) → first_unsound def ≡ Some fault)
    → none.file_lacking ≡ false
    → r.file_lacking ≡ (none.file_lacking || wants_memory (Read fault)) → answer ≡ status_of r
    → happened.definition ≡ Some (Read fault) → happened.outcomes.items ≡ []
    → happened.several ≡ None
    → Happens (record { request = request; def = def; files = files }) happened
happens_refused request def files fault none r answer happened whole first lacks lacking ends is
    no_outcomes no_several =
    let parts = status_whole r.file_lacking r.path_unspelled r.any_refusal
    (λ want. not_whole answer (inr (ends ∙ want)) whole) in
    let other : fault ≡ Memory → ⊥ = λ e.
    true≢false (sym (ap is_memory e)
    ∙ (sym (ap (λ x. x || is_memory fault) lacks) ∙ (sym lacking ∙ parts.0))) in
    let due = first other in
    record {
      definition = is ∙ ap (λ o. (file_due o).cause) (sym due);
      outcomes = ap (map cause_in) no_outcomes
          ∙ ap (λ o. causes (if is_some o then []
          else (task_dues (frame_in def) request.task request.paths files).dues)) (sym due);
      several = uncounted happened.several _ no_several;
    }

-- what was read of files is enough
happens_held : (request : Request) (def : List ℕ) (files : List (List ℕ)) (happened : Happened)
    → Happens (record { request = request; def = held_part def; files = map held_part files })
    happened → Happens (record { request = request; def = def; files = files }) happened
happens_held request def files happened happens = record {
  definition = happens.definition ∙ ap (λ o. (file_due o).cause) (held_unsound def);
  outcomes = happens.outcomes ∙ ap causes (held_dues request.task def request.paths files);
  several = subst (λ cs. IfSome happened.several (λ n. n ≡ length cs)) (held_conflicts def files)
      happens.several;
}

-- the job of a run whose files stand at its paths
pub happens_known : (at : List ℕ → At) (request : Request) (def : List ℕ) (files : List (List ℕ))
    (happened : Happened) → AreRead at (request.def ∷ request.paths) (def ∷ files)
    → Happens (record { request = request; def = def; files = files }) happened
    → (job : Job) → job.request ≡ request
    → AreAt at (job.request.def ∷ job.request.paths) (job.def ∷ job.files)
    → Happens job happened
happens_known at request def files happened read happens job is there =
    let all : def ∷ files ≡ held_part job.def ∷ map held_part job.files =
    read_known at (request.def ∷ request.paths) (def ∷ files) (job.def ∷ job.files) read
    (subst (λ (q : Request). AreAt at (q.def ∷ q.paths) (job.def ∷ job.files)) is there) in
    let def_is : def ≡ held_part job.def = cc in
    let files_are : files ≡ map held_part job.files = cc in
    subst (λ (q : Request). Happens (record { request = q; def = job.def; files = job.files })
    happened) (sym is)
    (happens_held request job.def job.files happened
    (subst (λ fs. Happens (record { request = request; def = held_part job.def; files = fs })
    happened) files_are
    (subst (λ d. Happens (record { request = request; def = d; files = files }) happened) def_is
    happens)))

-- with its request
pub noted : (job : Job) (before after : Happened) (request : Request) → job.request ≡ request
    → after.request ≡ Some request → after.definition ≡ before.definition
    → after.outcomes.items ≡ before.outcomes.items → after.several ≡ before.several
    → Happens job before → IsNoted job after
noted job before after request is asked definition outcomes several happens = record {
  request = asked ∙ ap (λ (q : Request). Some q) (sym is);
  happens = record {
    definition = definition ∙ happens.definition;
    outcomes = ap (map cause_in) outcomes ∙ happens.outcomes;
    several = subst (λ o. IfSome o (λ n. n ≡ length (run_conflicts job.def job.files))) (sym several)
        happens.several;
  };
}
