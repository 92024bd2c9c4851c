-- Laws of volumes that are passed on as files: each is accepted, nothing is added and nothing lost,
-- and offices that do so hold what exchanges would give. (This project's own.)
use Rattle.std.specs.Prelude.{◌≡◌, ◌<◌, ◌≤◌, ◌⊎◌, ℕ, List, [], ◌∷◌, ◌++◌, length, map}
use Rattle.std.specs.Prelude.{slice_index_or, true, Some}
use Rattle.std.specs.List.{slice_get, range_with_len}
use Rattle.std.specs.FinSet.{contains, union, empty}
use Rattle.cdf_types.specs.declared.fault.ReadFault.TheVariants as read
use Rattle.cdf_form.specs.Reading.{max_file}
use Rattle.cdf_definition.specs.Frame.{Frame, IsSame}
use Rattle.cdf_definition.specs.Sound.{IsFrame}
use Rattle.cdf_definition.specs.Acceptance.{Valid}
use Rattle.cvr_fact_types.specs.Facts.{Fact, Facts}
use Rattle.cvr_facts.specs.Reports.{facts}
use Rattle.cvr_office.specs.declared.event.Event.TheVariants.{Exchange}
use Rattle.cvr_office.specs.declared.event.Outcome.{Outcome}
use Rattle.cvr_office.specs.declared.event.Outcome.TheVariants.{Accepted, Refused}
use Rattle.cvr_office.specs.declared.event.Cause.TheVariants.{Read}
use Rattle.cvr_office.specs.Readers.{growth}
use Rattle.cvr_office.specs.CanHold.{CanHold}
use Rattle.cvr_office.specs.Reach.{History, content}
use Rattle.cvr_office.specs.Outcomes.{no_frame, IsImportOutcome, AreOutcomes}
use Rattle.cvr_office.specs.Alike.{AreNewOfOne, ArePlayed, HaveSameFiles, AreAlike}
use Rattle.cvr_report.specs.Head.{Head}
use Rattle.cvr_report.specs.Laws.{WriteAlike}
use Rattle.cvr_report.specs.Page.{volumes}
use Rattle.cvr_report.specs.Volume.{volume}
use Rattle.cvr_exchange.specs.Passing.{CanHead, facts_of_volumes, AreAllTo, AreImported}
use Rattle.cvr_exchange.specs.Passing.{AreImportsOfAll, IsByFiles}

-- ---- a volume as a file

-- a volume that is short enough for a file is accepted beside the giver's definition
abbrev pub ValidLaw : Type 0
ValidLaw = (frame : Frame) (head : Head) (s : Facts) (i : ℕ) → CanHold frame s → CanHead frame head
    → 0 < i
    → length (volume frame head s i) ≤ max_file → Valid frame (volume frame head s i)

-- and beside any definition that is the same
abbrev pub ValidForSameLaw : Type 0
ValidForSameLaw = (frame other : Frame) (head : Head) (s : Facts) (i : ℕ) → CanHold frame s
    → CanHead frame head → 0 < i
    → length (volume frame head s i) ≤ max_file → IsFrame other → IsSame frame other
    → Valid other (volume frame head s i)

-- ---- all volumes

-- each fact of a volume is one of its giver's
abbrev pub NothingAddedLaw : Type 0
NothingAddedLaw = (frame : Frame) (head : Head) (s : Facts) (i : ℕ) (f : Fact) → CanHold frame s
    → CanHead frame head → 0 < i
    → contains (facts (volume frame head s i)) f ≡ true → contains s f ≡ true

-- all volumes together have the giver's facts exactly, however long they are
abbrev pub AllVolumesLaw : Type 0
AllVolumesLaw = (frame : Frame) (head : Head) (s : Facts) → CanHold frame s → CanHead frame head
    → facts_of_volumes frame head s (range_with_len 1 (volumes s)) ≡ s

-- in any order, with any repeats
abbrev pub AnyOrderLaw : Type 0
AnyOrderLaw = (frame : Frame) (head : Head) (s : Facts) (numbers : List ℕ) → CanHold frame s
    → CanHead frame head
    → AreAllTo (volumes s) numbers → facts_of_volumes frame head s numbers ≡ s

-- ---- imports in place of an exchange

-- the import of a volume that is short enough, into an office of the same definition, is accepted,
-- or else memory was refused
abbrev pub AcceptedLaw : Type 0
AcceptedLaw = (frame : Frame) (head : Head) (s : Facts) (i : ℕ) (frames : List Frame)
    (files : List (List ℕ)) (held : ℕ → Facts) (o f : ℕ) (r : Outcome)
    → CanHold frame s → CanHead frame head → 0 < i → length (volume frame head s i) ≤ max_file
    → o < length frames → IsFrame (slice_index_or frames o no_frame)
    → IsSame frame (slice_index_or frames o no_frame)
    → f < length files → slice_index_or files f [] ≡ volume frame head s i
    → IsImportOutcome frames files held o f r
    → (r ≡ Accepted (growth (held o) (facts (volume frame head s i))))
    ⊎ (r ≡ Refused (Read read.Memory))

-- imports into o of all volumes of what p holds leave each office with what the exchange from p to
-- o would
abbrev pub ImportsLaw : Type 0
ImportsLaw = (frame : Frame) (head : Head) (starts : List Facts) (files : List (List ℕ))
    (imports past : History) (p o n : ℕ)
    → CanHold frame (content starts files past p) → CanHead frame head
    → AreImportsOfAll frame head (content starts files past p) files o imports
    → (k : ℕ) → content starts files (imports ++ past) k
    ≡ content starts files ((Exchange p o, Accepted n) ∷ past) k

-- after imports into o of volumes of these numbers, among any other events, o holds what it held
-- and their facts
abbrev pub AmongLaw : Type 0
AmongLaw = (frame : Frame) (head : Head) (s : Facts) (starts : List Facts) (files : List (List ℕ))
    (later past : History) (o : ℕ) (numbers : List ℕ) (q : Fact)
    → AreImported frame head s files o numbers later
    → contains (union (content starts files past o) (facts_of_volumes frame head s numbers)) q
    ≡ true → contains (content starts files (later ++ past) o) q ≡ true

-- after those of all volumes, it holds all that the giver held when it wrote them
abbrev pub AllAmongLaw : Type 0
AllAmongLaw = (frame : Frame) (head : Head) (s : Facts) (starts : List Facts)
    (files : List (List ℕ)) (later past : History) (o : ℕ) (numbers : List ℕ) (q : Fact)
    → CanHold frame s → CanHead frame head → AreAllTo (volumes s) numbers
    → AreImported frame head s files o numbers later
    → contains (union (content starts files past o) s) q ≡ true
    → contains (content starts files (later ++ past) o) q ≡ true

-- ---- histories

-- what each office holds at first keeps what an office keeps true
abbrev pub CouldBegin : List Frame → List Facts → Type 0
CouldBegin frames starts = (o : ℕ) → o < length frames
    → CanHold (slice_index_or frames o no_frame) (slice_index_or starts o empty)

-- offices that do by files what a history does hold what that history would give
abbrev pub ByFilesLaw : Type 0
ByFilesLaw = (frames : List Frame) (starts : List Facts) (files : List (List ℕ)) (by past : History)
    → CouldBegin frames starts → AreOutcomes starts frames files by
    → IsByFiles frames starts files by past
    → (o : ℕ) → content starts files by o ≡ content starts files past o

-- new offices of one definition pass each other volumes as files: two that the same files would
-- have reached by exchanges are alike, and write alike
abbrev pub SamePassingLaw : {Office : Type 0} → (Office → Facts) → (Office → Frame) → Type 0
SamePassingLaw {Office} held defined = (before after : List Office) (files : List (List ℕ))
    (by past : History) (o p : ℕ) (one other : Office)
    → AreNewOfOne held defined before → ArePlayed held defined before after files by
    → IsByFiles (map defined before) (map held before) files by past → HaveSameFiles files past o p
    → slice_get after o ≡ Some one → slice_get after p ≡ Some other
    → AreAlike held defined one other × WriteAlike (defined one) (defined other) (held one)
    (held other)
