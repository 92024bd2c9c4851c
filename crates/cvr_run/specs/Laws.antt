-- What is held of files is what an office holds after their imports, in a drill too; the values of
-- the accepted ones alone count, and neither their order nor a value that comes again. (This
-- project's own.)
use Rattle.std.specs.Prelude.{◌≡◌, ◌≢◌, ◌↔◌, ◌⊎◌, ◌<◌, ◌≤◌, ◌+◌, ◌-◌, ℕ, zero, suc, length}
use Rattle.std.specs.Prelude.{slice_index_or}
use Rattle.std.specs.Prelude.{map, reverse, List, [], ◌∷◌, ◌++◌, replicate, codes, decimal, Bool}
use Rattle.std.specs.Prelude.{true, Option, Some, None}
use Rattle.std.specs.List.{Contains, filter, flat_map, range_with_len}
use Rattle.std.specs.FinSet.{contains, empty, union, len}
use Rattle.serde_json.specs.Data.{Data}
use Rattle.cdf_definition.specs.Frame.{Frame}
use Rattle.cdf_definition.specs.Acceptance.{Valid, first_refusal, value_in}
use Rattle.cvr_fact_types.specs.Facts.{Facts}
use Rattle.cvr_facts.specs.Reports.{facts}
use Rattle.cvr_office.specs.declared.event.Event.{Event}
use Rattle.cvr_office.specs.declared.event.Event.TheVariants.{Import}
use Rattle.cvr_office.specs.Alike.{HasReached, HaveSameFiles}
use Rattle.cvr_office.specs.CanHold.{starting_content}
use Rattle.cvr_office.specs.Readers.{growth}
use Rattle.cvr_office.specs.Reach.{History, File, origins_at, content}
use Rattle.cvr_office.specs.Outcomes.{due_outcome, AreOutcomes}
use Rattle.cvr_office.specs.Names.{records, conflicts}
use Rattle.cvr_office.specs.Tallied.{tally}
use Rattle.cvr_report.specs.Page.{volumes}
use Rattle.cvr_report.specs.Volume.{volume}
use Rattle.cvr_words.specs.declared.request.Act.{Act}
use Rattle.cvr_words.specs.declared.request.Act.TheVariants as act
use Rattle.cvr_words.specs.declared.request.Step.{Step}
use Rattle.cvr_run.specs.declared.merge.MergeFault.{MergeFault}
use Rattle.cvr_run.specs.declared.merge.MergeFault.TheVariants.{NoVolume}
use Rattle.cvr_run.specs.Currents.{currents, conflict_line, conflict_text}
use Rattle.cvr_run.specs.Drill.{events_of, new_offices, past_of, drill_contents, least_same}
use Rattle.cvr_run.specs.Drill.{drill_text}
use Rattle.cvr_run.specs.Log.{memory_line}
use Rattle.cvr_run.specs.Merge.{merge_fault, merge_text}
use Rattle.cvr_run.specs.Outcome.{accepted_facts, content_of_files}
use Rattle.cvr_run.specs.Refusals.{Due}
use Rattle.cvr_run.specs.Logged.{Logging, logged_lines, can_all, IsCutShort}

-- the imports of the first n files into one new office, each with the outcome that is due, the
-- newest first
abbrev pub imports : Frame → List (List ℕ) → ℕ → History
imports definition files zero = []
imports definition files (suc n) =
    let past = imports definition files n in
    let file = slice_index_or files n [] in (
      Import 0 n,
      due_outcome (first_refusal definition file)
          (growth (content (starting_content definition ∷ []) files past 0) (facts file)),
    ) ∷ past

-- what that office holds after all of them is the devices of the definition, and the facts of the
-- accepted files
abbrev pub HeldLaw : Type 0
HeldLaw = (definition : Frame) (files : List (List ℕ))
    → content (starting_content definition ∷ []) files (imports definition files (length files)) 0
    ≡ content_of_files definition files

-- ---- files of the same values

-- an accepted file of this value is among them
abbrev pub HasAccepted : Frame → List (List ℕ) → Data → Type 0
HasAccepted definition files v = (file : List ℕ) × Contains files file × Valid definition file
    × (value_in file ≡ v)

-- the accepted files of both lists have the same values, in any order and however often
abbrev pub HaveSameValues : Frame → List (List ℕ) → List (List ℕ) → Type 0
HaveSameValues definition files others = (v : Data)
    → HasAccepted definition files v ↔ HasAccepted definition others v

-- the two lists have the same texts, byte by byte, in any order and however often
abbrev pub HaveSameBytes : List (List ℕ) → List (List ℕ) → Type 0
HaveSameBytes files others = (file : List ℕ) → Contains files file ↔ Contains others file

-- then they have the same values, beside any definition
abbrev pub ByBytesLaw : Type 0
ByBytesLaw = (definition : Frame) (files others : List (List ℕ)) → HaveSameBytes files others
    → HaveSameValues definition files others

-- lists of the same values hold the same facts
abbrev pub SameFactsLaw : Type 0
SameFactsLaw = (definition : Frame) (files others : List (List ℕ))
    → HaveSameValues definition files others
    → content_of_files definition files ≡ content_of_files definition others

-- and have the same current snapshots
abbrev pub SameCurrentsLaw : Type 0
SameCurrentsLaw = (definition : Frame) (files others : List (List ℕ))
    → HaveSameValues definition files others
    → currents (content_of_files definition files) ≡ currents (content_of_files definition others)

-- and the same conflicts
abbrev pub SameConflictsLaw : Type 0
SameConflictsLaw = (definition : Frame) (files others : List (List ℕ))
    → HaveSameValues definition files others
    → conflicts (content_of_files definition files) ≡ conflicts (content_of_files definition others)

-- and the same tally
abbrev pub SameTallyLaw : Type 0
SameTallyLaw = (definition : Frame) (files others : List (List ℕ))
    → HaveSameValues definition files others
    → tally definition.contests (content_of_files definition files)
    ≡ tally definition.contests (content_of_files definition others)

-- and a merge of them has the same fault, or none
abbrev pub SameMergeFaultLaw : Type 0
SameMergeFaultLaw = (definition : Frame) (date device : List ℕ) (i : ℕ)
    (files others : List (List ℕ)) → HaveSameValues definition files others
    → merge_fault definition date device i (content_of_files definition files)
    ≡ merge_fault definition date device i (content_of_files definition others)

-- and prints the same volume
abbrev pub SameVolumeLaw : Type 0
SameVolumeLaw = (definition : Frame) (date device : List ℕ) (i : ℕ) (files others : List (List ℕ))
    → HaveSameValues definition files others
    → merge_text definition date device i (content_of_files definition files)
    ≡ merge_text definition date device i (content_of_files definition others)

-- ---- a merge

-- one that has no fault prints the volume, which is not empty
abbrev pub NoMergeFaultLaw : Type 0
NoMergeFaultLaw = (definition : Frame) (date device : List ℕ) (i : ℕ) (facts : Facts)
    → merge_fault definition date device i facts ≡ None
    → (merge_text definition date device i facts
    ≡ volume definition (record { date = date; device = device }) facts i)
    × (merge_text definition date device i facts ≢ [])

-- one that has a fault prints nothing
abbrev pub NoTextLaw : Type 0
NoTextLaw = (definition : Frame) (date device : List ℕ) (i : ℕ) (facts : Facts) (fault : MergeFault)
    → merge_fault definition date device i facts ≡ Some fault
    → merge_text definition date device i facts ≡ []

-- the number that is reported is that of the volumes
abbrev pub LoggedNumberLaw : Type 0
LoggedNumberLaw = (definition : Frame) (date device : List ℕ) (i : ℕ) (facts : Facts) (n : ℕ)
    → merge_fault definition date device i facts ≡ Some (NoVolume n) → n ≡ volumes facts

-- and `conflicts` ends with it
abbrev pub LastNumberLaw : Type 0
LastNumberLaw = (facts : Facts) → conflict_text (conflicts facts)
    ≡ flat_map conflict_line (conflicts facts)
    ++ (codes "volumes " ++ (decimal (volumes facts) ++ 10 ∷ []))

-- ---- a drill

-- the outcomes that are due to its events are such as these events may have
abbrev pub DueLaw : Type 0
DueLaw = (definition : Frame) (n : ℕ) (files : List (List ℕ)) (events : List Event)
    → AreOutcomes (new_offices definition n) (replicate n definition) files
    (past_of definition n files events)

-- the number that is printed for the office at place o: no higher than its own, of an office with
-- the same facts, and of no earlier one
pub record IsLeast (all : List Facts) (o : ℕ) : Type 0 where
  pub at_most : least_same all (slice_index_or all o empty) ≤ o + 1
  pub same : slice_index_or all (least_same all (slice_index_or all o empty) - 1) empty
      ≡ slice_index_or all o empty
  pub least : (k : ℕ) → k + 1 < least_same all (slice_index_or all o empty)
      → slice_index_or all k empty ≢ slice_index_or all o empty

abbrev pub LeastSameLaw : Type 0
LeastSameLaw = (all : List Facts) (o : ℕ) → o < length all → IsLeast all o

-- ---- a drill and the other commands

-- what the steps do, in order
abbrev pub acts : List Step → List Act
acts steps = map (λ step. step.act) steps

-- what the office at place o, whose number is one more, holds after the steps
abbrev pub held_by : Frame → ℕ → List (List ℕ) → List Step → ℕ → Facts
held_by definition n files steps o =
    slice_index_or (drill_contents definition n files steps) o empty

-- before the first step each office holds what the other commands hold of no files
abbrev pub FirstStepLaw : Type 0
FirstStepLaw = (definition : Frame) (n : ℕ) (files : List (List ℕ)) (steps : List Step) (o : ℕ)
    → o < n → acts steps ≡ [] → held_by definition n files steps o ≡ content_of_files definition []

-- after one import more, the office o holds the facts of the file besides, if that is accepted, and
-- each other what it held
abbrev pub StepImportLaw : Type 0
StepImportLaw = (definition : Frame) (n : ℕ) (files : List (List ℕ)) (steps more : List Step)
    (o f : ℕ) → o < n → f < length files
    → acts more ≡ acts steps ++ act.Import (suc o) f ∷ []
    → (held_by definition n files more o
    ≡ union (held_by definition n files steps o)
    (accepted_facts definition (slice_index_or files f [])))
    × ((k : ℕ) → k < n → k ≢ o → held_by definition n files more k
    ≡ held_by definition n files steps k)

-- after one exchange more, from p to o, the office o holds what both held, and each other what it
-- held
abbrev pub ExchangeLaw : Type 0
ExchangeLaw = (definition : Frame) (n : ℕ) (files : List (List ℕ)) (steps more : List Step)
    (p o : ℕ) → p < n → o < n
    → acts more ≡ acts steps ++ act.Exchange (suc p) (suc o) ∷ []
    → (held_by definition n files more o
    ≡ union (held_by definition n files steps o) (held_by definition n files steps p))
    × ((k : ℕ) → k < n → k ≢ o → held_by definition n files more k
    ≡ held_by definition n files steps k)

-- the events of the steps with their outcomes, the newest first
abbrev pub past_after : Frame → ℕ → List (List ℕ) → List Step → History
past_after definition n files steps = past_of definition n files (reverse (events_of n steps))

-- the files that have reached the office o
abbrev pub files_reached : List (List ℕ) → History → ℕ → List (List ℕ)
files_reached files past o = map (λ f. slice_index_or files f [])
    (filter (λ f. contains (origins_at past o) (File f)) (range_with_len 0 (length files)))

-- an office holds what the other commands hold of the files that have reached it, by imports or
-- exchanges
abbrev pub FilesReachedLaw : Type 0
FilesReachedLaw = (definition : Frame) (n : ℕ) (files : List (List ℕ)) (steps : List Step) (o : ℕ)
    → o < n
    → held_by definition n files steps o
    ≡ content_of_files definition (files_reached files (past_after definition n files steps) o)

-- and of any files whose accepted values are those that have reached it
abbrev pub ReachedLaw : Type 0
ReachedLaw = (definition : Frame) (n : ℕ) (files others : List (List ℕ)) (steps : List Step) (o : ℕ)
    → o < n
    → ((v : Data) → HasReached files (past_after definition n files steps) o v
    ↔ HasAccepted definition others v)
    → held_by definition n files steps o ≡ content_of_files definition others

-- two offices that the same files have reached hold the same
abbrev pub SameReachedLaw : Type 0
SameReachedLaw = (definition : Frame) (n : ℕ) (files : List (List ℕ)) (steps : List Step) (p o : ℕ)
    → p < n → o < n
    → HaveSameFiles files (past_after definition n files steps) p o
    → held_by definition n files steps p ≡ held_by definition n files steps o

-- among these an accepted file of this value is imported into the office o
abbrev pub ImportsAccepted : Frame → List (List ℕ) → List Act → ℕ → Data → Type 0
ImportsAccepted definition files done o v =
    (f : ℕ) × (f < length files) × Contains done (act.Import (suc o) f)
    × Valid definition (slice_index_or files f []) × (value_in (slice_index_or files f []) ≡ v)

-- an office that imports each accepted value, in any order and among any other steps, holds what
-- the other commands hold of the files
abbrev pub AllImportedLaw : Type 0
AllImportedLaw = (definition : Frame) (n : ℕ) (files : List (List ℕ)) (steps : List Step) (o : ℕ)
    → o < n
    → ((v : Data) → HasAccepted definition files v
    → ImportsAccepted definition files (acts steps) o v)
    → held_by definition n files steps o ≡ content_of_files definition files

-- each accepted value is imported by one of these two offices
abbrev pub ImportEach : Frame → List (List ℕ) → List Act → ℕ → ℕ → Type 0
ImportEach definition files first p o =
    (v : Data) → HasAccepted definition files v
    → ImportsAccepted definition files first p v ⊎ ImportsAccepted definition files first o v

-- so it is where each place among the files is imported by one of them
abbrev pub ByPlacesLaw : Type 0
ByPlacesLaw = (definition : Frame) (files : List (List ℕ)) (first : List Act) (p o : ℕ)
    → ((f : ℕ) → f < length files → Contains first (act.Import (suc p) f)
    ⊎ Contains first (act.Import (suc o) f)) → ImportEach definition files first p o

-- two offices that between them import each accepted value, and at last exchange both ways, hold
-- what the other commands hold of the files
abbrev pub BothWaysLaw : Type 0
BothWaysLaw = (definition : Frame) (n : ℕ) (files : List (List ℕ)) (steps : List Step)
    (first : List Act) (p o : ℕ) → p < n → o < n
    → acts steps ≡ first ++ act.Exchange (suc p) (suc o) ∷ act.Exchange (suc o) (suc p) ∷ []
    → ImportEach definition files first p o
    → (held_by definition n files steps p ≡ content_of_files definition files)
    × (held_by definition n files steps o ≡ content_of_files definition files)

-- two offices that each import the same two files, each time from a place of its own, hold what the
-- other commands hold of the two
abbrev pub EachImportsBothLaw : Type 0
EachImportsBothLaw = (definition : Frame) (one other : List ℕ) (steps : List Step) (o : ℕ) → o < 2
    → acts steps ≡ act.Import 1 0 ∷ act.Import 1 1 ∷ act.Import 2 2 ∷ act.Import 2 3 ∷ []
    → held_by definition 2 (one ∷ other ∷ one ∷ other ∷ []) steps o
    ≡ content_of_files definition (one ∷ other ∷ [])

-- the line of an office that holds what the first holds
abbrev pub same_line : ℕ → Facts → List ℕ
same_line number facts =
    codes "office " ++ (decimal number ++
    (codes " records " ++ (decimal (length (records facts))
    ++ (codes " facts " ++ (decimal (len facts) ++ codes " same 1\n")))))

-- so a drill of one office that imports each accepted value prints how many records and facts the
-- other commands hold
abbrev pub OneLineLaw : Type 0
OneLineLaw = (definition : Frame) (files : List (List ℕ)) (steps : List Step)
    → ((v : Data) → HasAccepted definition files v
    → ImportsAccepted definition files (acts steps) 0 v)
    → drill_text definition 1 files steps ≡ same_line 1 (content_of_files definition files)

-- and one of two that exchange both ways prints it of both, and that they are the same
abbrev pub TwoLinesLaw : Type 0
TwoLinesLaw = (definition : Frame) (files : List (List ℕ)) (steps : List Step) (first : List Act)
    → acts steps ≡ first ++ act.Exchange 1 2 ∷ act.Exchange 2 1 ∷ []
    → ImportEach definition files first 0 1
    → drill_text definition 2 files steps
    ≡ same_line 1 (content_of_files definition files)
    ++ same_line 2 (content_of_files definition files)

-- ---- out of memory

-- a run that runs out of memory logs `memory` alone, or each of its files or steps
abbrev pub AloneOrEachLaw : Type 0
AloneOrEachLaw =
    (texts : List (List ℕ)) (dues : List Due) (fault : Option MergeFault) (out_failed : Bool)
    (text : List ℕ)
    → IsCutShort (record { texts = texts; dues = dues }) fault out_failed text
    → (text ≡ memory_line)
    ⊎ ((loggings : List Logging) × (rest : List ℕ) × (length loggings ≡ length dues)
    × (can_all loggings dues ≡ true) × (text ≡ logged_lines loggings texts dues ++ rest))
