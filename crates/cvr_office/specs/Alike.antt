-- Offices that hold and answer the same: those of one definition that the same files have reached,
-- and those that are the same. (This project's own.)
use Rattle.std.specs.Prelude.{◌≡◌, ◌↔◌, ◌<◌, ℕ, List, [], length, map, slice_index_or, true, Option}
use Rattle.std.specs.Prelude.{Some}
use Rattle.std.specs.List.{All, slice_get}
use Rattle.std.specs.FinSet.{contains, union, empty}
use Rattle.serde_json.specs.Data.{Data}
use Rattle.cdf_definition.specs.Acceptance.{value_in}
use Rattle.cdf_definition.specs.Frame.{Frame, IsSame}
use Rattle.cdf_check.specs.Same.{IsOne}
use Rattle.cdf_definition.specs.Sound.{IsFrame}
use Rattle.cvr_fact_types.specs.declared.name.RecordName.{RecordName}
use Rattle.cvr_fact_types.specs.declared.header.HeaderFact.{HeaderFact}
use Rattle.cvr_fact_types.specs.declared.snapshot.SnapshotFact.{SnapshotFact}
use Rattle.cvr_fact_types.specs.Facts.{Facts}
use Rattle.cvr_facts.specs.Choosing.{header, current}
use Rattle.cvr_tally.specs.declared.key.RowKey.{RowKey}
use Rattle.cvr_office.specs.Names.{conflicts}
use Rattle.cvr_office.specs.Readers.{IsHeader, IsCurrent}
use Rattle.cvr_office.specs.CanHold.{starting_content, CanHold}
use Rattle.cvr_office.specs.Reach.{History, Start, File, origins_at, content}
use Rattle.cvr_office.specs.Outcomes.{AreOutcomes}
use Rattle.cvr_office.specs.Tallied.{row, rows, tally}

-- ---- what is answered

-- two sets of facts, each beside a definition, answer alike
pub record AnswerAlike (f g : Frame) (s t : Facts) : Type 0 where
  pub currents : (key : RecordName) → current s key ≡ current t key
  -- as they are answered, with their votes
  pub currents_stated : (key : RecordName) (one other : Option SnapshotFact)
      → IsCurrent f.contests s key one → IsCurrent g.contests t key other → one ≡ other
  pub headers : (key : RecordName) → header s key ≡ header t key
  -- as they are answered, with unit and batch
  pub headers_stated : (key : RecordName) (one other : Option HeaderFact) → IsHeader s key one
      → IsHeader t key other → one ≡ other
  pub conflicts_are : conflicts s ≡ conflicts t
  pub contests_are : f.contests ≡ g.contests
  pub row_is : (q : RowKey) → row f.contests s q ≡ row g.contests t q
  pub rows_are : rows f.contests s ≡ rows g.contests t
  pub tally_is : tally f.contests s ≡ tally g.contests t

-- ---- offices of one definition

-- each is new, and their definitions are one
pub record AreNewOfOne {Office : Type 0} (held : Office → Facts) (defined : Office → Frame)
    (offices : List Office) : Type 0 where
  pub new : All (λ o. held o ≡ starting_content (defined o)) offices
  pub sound : All (λ o. IsFrame (defined o)) offices
  pub one : All (λ o. All (λ p. IsOne (defined o) (defined p)) offices) offices

-- what `play` says of offices before and after some events with their outcomes
pub record ArePlayed {Office : Type 0} (held : Office → Facts) (defined : Office → Frame)
    (before after : List Office) (files : List (List ℕ)) (past : History) : Type 0 where
  pub contents : (o : ℕ) → o < length before
      → slice_index_or (map held after) o empty ≡ content (map held before) files past o
  pub outcomes : AreOutcomes (map held before) (map defined before) files past
  pub definitions : map defined after ≡ map defined before

-- a file of this value has reached the office o
abbrev pub HasReached : List (List ℕ) → History → ℕ → Data → Type 0
HasReached files past o value = (f : ℕ) × (contains (origins_at past o) (File f) ≡ true)
    × (value_in (slice_index_or files f []) ≡ value)

-- the same files have reached both: a file means its value, wherever it stands and however spelled
abbrev pub HaveSameFiles : List (List ℕ) → History → ℕ → ℕ → Type 0
HaveSameFiles files past o p = (value : Data)
    → HasReached files past o value ↔ HasReached files past p value

-- the files at the same places have reached both
abbrev pub HaveSamePlaces : History → ℕ → ℕ → Type 0
HaveSamePlaces past o p = (f : ℕ) → (contains (origins_at past o) (File f) ≡ true)
    ↔ (contains (origins_at past p) (File f) ≡ true)

-- files at the same places are the same files
abbrev pub SamePlacesLaw : Type 0
SamePlacesLaw = (files : List (List ℕ)) (past : History) (o p : ℕ) → HaveSamePlaces past o p
    → HaveSameFiles files past o p

-- two offices hold the same, and answer alike
pub record AreAlike {Office : Type 0} (held : Office → Facts) (defined : Office → Frame)
    (one other : Office) : Type 0 where
  pub contents : held one ≡ held other
  pub answers : AnswerAlike (defined one) (defined other) (held one) (held other)

-- any two of these offices that the same files have reached are alike
abbrev pub AreAlikeByFiles : {Office : Type 0} → (Office → Facts) → (Office → Frame) → List (List ℕ)
    → History → List Office → Type 0
AreAlikeByFiles {Office} held defined files past offices = (o p : ℕ) (one other : Office)
    → slice_get offices o ≡ Some one → slice_get offices p ≡ Some other
    → HaveSameFiles files past o p → AreAlike held defined one other

-- new offices of one definition, after any events: two that the same files have reached are alike
abbrev pub SameFilesLaw : {Office : Type 0} → (Office → Facts) → (Office → Frame) → Type 0
SameFilesLaw {Office} held defined = (before after : List Office) (files : List (List ℕ))
    (past : History)
    → AreNewOfOne held defined before → ArePlayed held defined before after files past
    → AreAlikeByFiles held defined files past after

-- two such offices hold the same, and all are of one definition
abbrev pub SameContentLaw : {Office : Type 0} → (Office → Facts) → (Office → Frame) → Type 0
SameContentLaw {Office} held defined = (before after : List Office) (files : List (List ℕ))
    (past : History)
    → AreNewOfOne held defined before → ArePlayed held defined before after files past
    → (o p : ℕ) (one other : Office) → slice_get after o ≡ Some one → slice_get after p ≡ Some other
    → HaveSameFiles files past o p → held one ≡ held other

abbrev pub SameDefinitionLaw : {Office : Type 0} → (Office → Facts) → (Office → Frame) → Type 0
SameDefinitionLaw {Office} held defined = (before after : List Office) (files : List (List ℕ))
    (past : History)
    → AreNewOfOne held defined before → ArePlayed held defined before after files past
    → (o p : ℕ) (one other : Office) → slice_get after o ≡ Some one → slice_get after p ≡ Some other
    → defined one ≡ defined other

-- ---- what the same files give

-- the offices that have reached this one all started with these facts
abbrev pub BeganAlike : Facts → List Facts → History → ℕ → Type 0
BeganAlike start starts past o = (k : ℕ) → contains (origins_at past o) (Start k) ≡ true
    → slice_index_or starts k empty ≡ start

-- where all began with the same facts, the same files give the same content
abbrev pub SameStartLaw : Type 0
SameStartLaw = (start : Facts) (starts : List Facts) (files : List (List ℕ)) (past : History)
    (o p : ℕ)
    → BeganAlike start starts past o → BeganAlike start starts past p → HaveSameFiles files past o p
    → content starts files past o ≡ content starts files past p

-- before any event an office holds what it began with
abbrev pub NoEventLaw : Type 0
NoEventLaw = (starts : List Facts) (files : List (List ℕ)) (o : ℕ)
    → content starts files [] o ≡ slice_index_or starts o empty

-- ---- offices that are the same

-- the same facts beside the same contests answer alike
abbrev pub AnswerAlikeLaw : Type 0
AnswerAlikeLaw = (f g : Frame) (s t : Facts) → f.contests ≡ g.contests → s ≡ t → AnswerAlike f g s t

-- the same definition and the same facts answer alike
abbrev pub SameOfficesLaw : Type 0
SameOfficesLaw = (f g : Frame) (s t : Facts) → IsFrame f → IsFrame g → IsSame f g → s ≡ t
    → AnswerAlike f g s t

-- ---- new offices

-- joining these facts changes nothing, on either side
pub record IsUnitFor (s new : Facts) : Type 0 where
  pub joined : union s new ≡ s
  pub joining : union new s ≡ s

-- a new office is the unit of joining among offices with the same starting facts
abbrev pub NewOfficeLaw : Type 0
NewOfficeLaw = (f g : Frame) (s : Facts) → CanHold g s → starting_content f ≡ starting_content g
    → IsUnitFor s (starting_content f)
