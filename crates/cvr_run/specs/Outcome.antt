-- What a run has to print, over the bytes of its files. (This project's own.)
use Rattle.std.specs.Prelude.{◌≡◌, ℕ, List, [], ◌∷◌, ◌++◌, Bool, ◌||◌, if◌then◌else◌, map, decimal}
use Rattle.std.specs.Prelude.{◌⊎◌, Option, None, is_some}
use Rattle.std.specs.Int.NonZero.{non_zero_u32_get}
use Rattle.std.specs.Global.{Vec}
use Rattle.std.specs.List.{list_any}
use Rattle.std.specs.FinSet.{union, empty}
use Rattle.std.specs.Option.{option_map_or}
use Rattle.cdf_parts.specs.Parts.{record_count}
use Rattle.cdf_definition.specs.Frame.{Frame}
use Rattle.cdf_definition.specs.Acceptance.{frame_in}
use Rattle.cvr_fact_types.specs.Facts.{Facts}
use Rattle.cvr_facts.specs.Reports.{facts}
use Rattle.cvr_run.specs.declared.merge.MergeFault.{MergeFault}
use Rattle.cvr_words.specs.declared.request.Task.{Task}
use Rattle.cvr_words.specs.declared.request.Task.TheVariants.{Currents, Check, Conflicts, Tally}
use Rattle.cvr_words.specs.declared.request.Task.TheVariants.{Merge, Drill}
use Rattle.cvr_run.specs.declared.status.Status.{Status}
use Rattle.cvr_run.specs.declared.status.Status.TheVariants.{Done, Refused}
use Rattle.cvr_run.specs.Accepted.{is_unsound, is_refused, accepted_value}
use Rattle.cvr_office.specs.Names.{conflicts}
use Rattle.cvr_office.specs.Tallied.{tally}
use Rattle.cvr_office.specs.CanHold.{starting_content}
use Rattle.cvr_office.specs.Reach.{union_over}
use Rattle.cvr_run.specs.Currents.{currents, conflict_text}
use Rattle.cvr_run.specs.Drill.{drill_text, drill_refused}
use Rattle.cvr_run.specs.Merge.{merge_fault, merge_text}

-- ---- what a run holds

-- the facts of a file that is accepted beside the definition, and none of another
abbrev pub accepted_facts : Frame → List ℕ → Facts
accepted_facts definition file = if is_refused definition file then empty else facts file

-- the devices of the definition, and the facts of the accepted files
abbrev pub content_of_files : Frame → List (List ℕ) → Facts
content_of_files definition files =
    union (starting_content definition) (union_over (accepted_facts definition) files)

-- ---- texts

-- a path and a number
abbrev pub count_line : List ℕ → ℕ → List ℕ
count_line path count = path ++ (32 ∷ (decimal count ++ 10 ∷ []))

-- the path of an accepted file and the number of its cast vote records
abbrev pub check_line : Frame → List ℕ → List ℕ → List ℕ
check_line definition path file = option_map_or (λ report. count_line path (record_count report))
    (accepted_value definition file) []

-- a line for each accepted file, in order
abbrev pub check_lines : Frame → List (List ℕ) → List (List ℕ) → List ℕ
check_lines definition (path ∷ paths) (file ∷ files) =
    check_line definition path file ++ check_lines definition paths files
check_lines definition paths files = []

-- the text of a task over facts: `check` and `drill` print nothing of them
abbrev pub facts_text : Frame → Task → Facts → List ℕ
facts_text definition Currents facts = currents facts
facts_text definition Conflicts facts = conflict_text (conflicts facts)
facts_text definition Tally facts = tally definition.contests facts
facts_text definition (Merge date device i) facts =
    merge_text definition date device (non_zero_u32_get i) facts
facts_text definition task facts = []

-- the text of a task over files
abbrev pub task_text : Frame → Task → List (List ℕ) → List (List ℕ) → List ℕ
task_text definition Check paths files = check_lines definition paths files
task_text definition (Drill n steps) paths files = drill_text definition n files steps
task_text definition task paths files =
    facts_text definition task (content_of_files definition files)

-- the text of a run: nothing where the file of the definition is refused
abbrev pub run_text : Task → List ℕ → List (List ℕ) → List (List ℕ) → List ℕ
run_text task def paths files =
    if is_unsound def then [] else task_text (frame_in def) task paths files

-- ---- what is refused

-- why a task prints nothing over facts: `merge` alone may have a fault
abbrev pub facts_fault : Frame → Task → Facts → Option MergeFault
facts_fault definition (Merge date device i) facts =
    merge_fault definition date device (non_zero_u32_get i) facts
facts_fault definition task facts = None

-- the same over files
abbrev pub task_fault : Frame → Task → List (List ℕ) → Option MergeFault
task_fault definition task files = facts_fault definition task (content_of_files definition files)

-- and of a run: none where the file of the definition is refused
abbrev pub run_fault : Task → List ℕ → List (List ℕ) → Option MergeFault
run_fault task def files = if is_unsound def then None else task_fault (frame_in def) task files

-- whether the text of a task over facts or a file is refused beside a definition
abbrev pub files_refused : Frame → Task → List (List ℕ) → Bool
files_refused definition task files =
    is_some (task_fault definition task files) || list_any (is_refused definition) files

-- whether a step of a drill is refused; of another task, the task or a file
abbrev pub task_refused : Frame → Task → List (List ℕ) → Bool
task_refused definition (Drill n steps) files = drill_refused definition n files steps
task_refused definition task files = files_refused definition task files

-- whether the file of the definition, the task or another file is refused
abbrev pub any_refused : Task → List ℕ → List (List ℕ) → Bool
any_refused task def files = is_unsound def || task_refused (frame_in def) task files

-- ---- files and statuses

-- the bytes of files
abbrev pub files_of : List (Vec ℕ) → List (List ℕ)
files_of files = map (λ file. file.items) files

-- the run is whole: its status is Done or Refused
abbrev pub IsWhole : Status → Type 0
IsWhole status = (status ≡ Done) ⊎ (status ≡ Refused)
