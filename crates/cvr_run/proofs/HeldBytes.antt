-- A run over what is held of files is one over the files.
use Rattle.std.proofs.Common.{◌≡◌, ℕ, List, [], ◌∷◌, ◌++◌, map, true, Some, None, ◌||◌, refl, ap}
use Rattle.std.proofs.Common.{◌∙◌}
use Rattle.std.specs.Prelude.{is_some, if◌then◌else◌}
use Rattle.std.specs.List.{list_any}
use Rattle.std.specs.FinSet.{union, empty}
use Rattle.std.specs.Option.{option_map_or}
use Rattle.cdf_types.specs.declared.fault.ReadFault.TheVariants.{TooLong}
use Rattle.cdf_parts.specs.Parts.{record_count}
use Rattle.cdf_form.specs.Reading.{value_of}
use Rattle.cdf_definition.specs.Frame.{Frame}
use Rattle.cdf_definition.specs.Acceptance.{own_refusal, first_unsound, frame_in}
use Rattle.cvr_facts.specs.Reports.{facts}
use Rattle.cvr_office.specs.CanHold.{starting_content}
use Rattle.cvr_office.specs.Names.{conflicts}
use Rattle.cvr_office.specs.Reach.{union_over}
use Rattle.cvr_words.specs.declared.request.Task.{Task}
use Rattle.cvr_words.specs.declared.request.Task.TheVariants.{Check, Drill}
use Rattle.cvr_run.specs.Accepted.{is_unsound, is_refused}
use Rattle.cvr_run.specs.Drill.{office_lines}
use Rattle.cvr_run.specs.Happened.{run_conflicts, run_dues}
use Rattle.cvr_run.specs.HeldBytes.{held_part, HeldTextLaw, HeldLinesLaw, HeldFaultLaw}
use Rattle.cvr_run.specs.HeldBytes.{HeldRefusedLaw}
use Rattle.cvr_run.specs.Outcome.{accepted_facts, content_of_files, count_line, check_line}
use Rattle.cvr_run.specs.Outcome.{check_lines, facts_text, facts_fault, task_text, task_fault}
use Rattle.cvr_run.specs.Outcome.{files_refused, task_refused, run_text, run_fault, any_refused}
use Rattle.cvr_run.specs.Refusals.{file_due}
use Rattle.cvr_run.specs.Logged.{Dues, refusal_line, refusal_lines, file_dues, drill_dues, task_dues}
use Rattle.cvr_run.specs.Logged.{run_lines}
use Rattle.cvr_run.proofs.HeldFiles.{same_for, too_long, unsound_long, refused_long, same_refusal}
use Rattle.cvr_run.proofs.HeldSteps.{same_step_dues, same_drilled}

-- ---- one file

same_facts : (definition : Frame) (file : List ℕ)
    → accepted_facts definition (held_part file) ≡ accepted_facts definition file
same_facts definition = same_for (accepted_facts definition) empty
    (λ file long. ap (λ refused. if refused then empty else facts file)
    (refused_long definition file long))

same_line : (definition : Frame) (path file : List ℕ)
    → check_line definition path (held_part file) ≡ check_line definition path file
same_line definition path =
    same_for (check_line definition path) []
    (λ file long. ap (λ refused. option_map_or (λ report. count_line path (record_count report))
    (if refused then None else value_of file) []) (refused_long definition file long))

-- ---- files beside a definition

same_union : (definition : Frame) (files : List (List ℕ))
    → union_over (accepted_facts definition) (map held_part files)
    ≡ union_over (accepted_facts definition) files
same_union definition [] = refl
same_union definition (file ∷ files) =
    λ i. union (same_facts definition file i) (same_union definition files i)

same_held : (definition : Frame) (files : List (List ℕ))
    → content_of_files definition (map held_part files) ≡ content_of_files definition files
same_held definition files = ap (union (starting_content definition)) (same_union definition files)

same_any : (definition : Frame) (files : List (List ℕ))
    → list_any (is_refused definition) (map held_part files)
    ≡ list_any (is_refused definition) files
same_any definition [] = refl
same_any definition (file ∷ files) =
    λ i. is_some (same_refusal definition file i) || same_any definition files i

same_dues : (definition : Frame) (files : List (List ℕ))
    → file_dues definition (map held_part files) ≡ file_dues definition files
same_dues definition [] = refl
same_dues definition (file ∷ files) =
    λ i. file_due (same_refusal definition file i) ∷ same_dues definition files i

same_lines : (definition : Frame) (paths files : List (List ℕ))
    → check_lines definition paths (map held_part files) ≡ check_lines definition paths files
same_lines definition [] files = refl
same_lines definition (path ∷ paths) [] = refl
same_lines definition (path ∷ paths) (file ∷ files) =
    λ i. same_line definition path file i ++ same_lines definition paths files i

same_text : (definition : Frame) (task : Task) (paths files : List (List ℕ))
    → task_text definition task paths (map held_part files) ≡ task_text definition task paths files
same_text definition Check paths files = same_lines definition paths files
same_text definition (Drill n steps) paths files =
    ap office_lines (same_drilled definition n files steps)
same_text definition task paths files = ap (facts_text definition task) (same_held definition files)

same_fault : (definition : Frame) (task : Task) (files : List (List ℕ))
    → task_fault definition task (map held_part files) ≡ task_fault definition task files
same_fault definition task files = ap (facts_fault definition task) (same_held definition files)

same_files : (definition : Frame) (task : Task) (files : List (List ℕ))
    → files_refused definition task (map held_part files) ≡ files_refused definition task files
same_files definition task files =
    λ i. is_some (same_fault definition task files i) || same_any definition files i

same_refused : (definition : Frame) (task : Task) (files : List (List ℕ))
    → task_refused definition task (map held_part files) ≡ task_refused definition task files
same_refused definition (Drill n steps) files =
    ap (list_any (λ due. is_some due.cause)) (same_step_dues definition n files steps)
same_refused definition task files = same_files definition task files

same_told : (definition : Frame) (task : Task) (paths files : List (List ℕ))
    → task_dues definition task paths (map held_part files) ≡ task_dues definition task paths files
same_told definition (Drill n steps) paths files =
    λ i. record (drill_dues definition n files steps) {
      dues = same_step_dues definition n files steps i;
    }
same_told definition task paths files =
    λ i. record (task_dues definition task paths files) { dues = same_dues definition files i }

-- ---- runs

pub held_text : HeldTextLaw
held_text task def paths files =
    same_for (λ d. run_text task d paths (map held_part files)) []
    (λ d long. ap (λ unsound. if unsound then []
    else task_text (frame_in d) task paths (map held_part files)) (unsound_long d long)) def
    ∙ ap (λ text. if is_unsound def then [] else text) (same_text (frame_in def) task paths files)

pub held_lines : HeldLinesLaw
held_lines task what def paths files =
    let lines : Dues → List ℕ = λ of. refusal_lines of.texts of.dues in
    same_for (λ d. run_lines task what d paths (map held_part files))
    (refusal_line what (file_due (Some TooLong)).cause)
    (λ d long. ap (λ o. if is_some o then refusal_line what (file_due o).cause
    else lines (task_dues (frame_in d) task paths (map held_part files)))
    (too_long own_refusal d long)) def
    ∙ ap (λ dues. if is_unsound def then refusal_line what (file_due (first_unsound def)).cause
    else lines dues) (same_told (frame_in def) task paths files)

pub held_fault : HeldFaultLaw
held_fault task def files =
    same_for (λ d. run_fault task d (map held_part files)) None
    (λ d long. ap (λ unsound. if unsound then None
    else task_fault (frame_in d) task (map held_part files)) (unsound_long d long)) def
    ∙ ap (λ fault. if is_unsound def then None else fault) (same_fault (frame_in def) task files)

pub held_refused : HeldRefusedLaw
held_refused task def files =
    same_for (λ d. any_refused task d (map held_part files)) true
    (λ d long. ap (λ unsound. unsound || task_refused (frame_in d) task (map held_part files))
    (unsound_long d long)) def
    ∙ ap (λ refused. is_unsound def || refused) (same_refused (frame_in def) task files)

pub held_unsound : (def : List ℕ) → first_unsound (held_part def) ≡ first_unsound def
held_unsound = same_for first_unsound (Some TooLong) (too_long own_refusal)

pub held_dues : (task : Task) (def : List ℕ) (paths files : List (List ℕ))
    → run_dues task (held_part def) paths (map held_part files) ≡ run_dues task def paths files
held_dues task def paths files =
    same_for (λ d. run_dues task d paths (map held_part files)) []
    (λ d long. ap (λ unsound. if unsound then []
    else (task_dues (frame_in d) task paths (map held_part files)).dues) (unsound_long d long)) def
    ∙ ap (λ (of : Dues). if is_unsound def then [] else of.dues)
    (same_told (frame_in def) task paths files)

pub held_conflicts : (def : List ℕ) (files : List (List ℕ))
    → run_conflicts (held_part def) (map held_part files) ≡ run_conflicts def files
held_conflicts def files =
    same_for (λ d. run_conflicts d (map held_part files)) []
    (λ d long. ap (λ unsound. if unsound then []
    else conflicts (content_of_files (frame_in d) (map held_part files))) (unsound_long d long)) def
    ∙ ap (λ held. if is_unsound def then [] else conflicts held) (same_held (frame_in def) files)
