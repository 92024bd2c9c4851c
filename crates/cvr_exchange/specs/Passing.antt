-- Volumes that offices pass on as files, in place of exchanges. (This project's own.)
use Rattle.std.specs.Prelude.{◌≡◌, ◌↔◌, ◌<◌, ◌≤◌, ℕ, List, [], ◌∷◌, ◌++◌, length, slice_index_or}
use Rattle.std.specs.Prelude.{true}
use Rattle.std.specs.List.{Contains}
use Rattle.cdf_definition.specs.Frame.{Frame}
use Rattle.cvr_fact_types.specs.Facts.{Facts}
use Rattle.cvr_facts.specs.Reports.{facts}
use Rattle.cvr_office.specs.declared.event.Event.{Event}
use Rattle.cvr_office.specs.declared.event.Event.TheVariants.{Import, Exchange}
use Rattle.cvr_office.specs.declared.event.Outcome.{Outcome}
use Rattle.cvr_office.specs.declared.event.Outcome.TheVariants.{Accepted}
use Rattle.cvr_office.specs.Outcomes.{no_frame}
use Rattle.cvr_office.specs.Reach.{History, union_over, content}
use Rattle.cvr_report.specs.Head.{Head, IsHeading, is_device_of}
use Rattle.cvr_report.specs.Page.{volumes}
use Rattle.cvr_report.specs.Volume.{volume}

-- a heading of a device that the definition has
pub record CanHead (frame : Frame) (head : Head) : Type 0 where
  pub heading : IsHeading head
  pub device : is_device_of frame head.device ≡ true

-- the facts of all volumes of these numbers: the union of the facts of each, read as a file
abbrev pub facts_of_volumes : Frame → Head → Facts → List ℕ → Facts
facts_of_volumes frame head s numbers = union_over (λ i. facts (volume frame head s i)) numbers

-- these are the numbers from 1 to n, in any order and with any repeats
abbrev pub AreAllTo : ℕ → List ℕ → Type 0
AreAllTo n numbers = (i : ℕ) → Contains numbers i ↔ ((0 < i) × (i ≤ n))

-- ---- in place of an exchange

-- an accepted import into the office o of a file that is this text
pub record IsImportOf (files : List (List ℕ)) (text : List ℕ) (o : ℕ)
    (e : Event × Outcome) : Type 0 where
  pub file : ℕ
  pub count : ℕ
  pub event : e ≡ (Import o file, Accepted count)
  pub text_is : slice_index_or files file [] ≡ text

-- the import into o of some volume of these facts
abbrev pub IsImportOfSome : Frame → Head → Facts → List (List ℕ) → ℕ → Event × Outcome → Type 0
IsImportOfSome frame head s files o e = (i : ℕ) × (0 < i) × (i ≤ volumes s)
    × IsImportOf files (volume frame head s i) o e

-- imports into o of volumes of these facts, each volume among them, in any order and with any
-- repeats
pub record AreImportsOfAll (frame : Frame) (head : Head) (s : Facts) (files : List (List ℕ)) (o : ℕ)
    (imports : History) : Type 0 where
  pub only : (e : Event × Outcome) → Contains imports e → IsImportOfSome frame head s files o e
  pub all : (i : ℕ) → 0 < i → i ≤ volumes s
      → (e : Event × Outcome) × Contains imports e × IsImportOf files (volume frame head s i) o e

-- each of the volumes of these numbers was imported into o
abbrev pub AreImported : Frame → Head → Facts → List (List ℕ) → ℕ → List ℕ → History → Type 0
AreImported frame head s files o numbers past =
    (i : ℕ) → Contains numbers i → (e : Event × Outcome) × Contains past e
    × IsImportOf files (volume frame head s i) o e

-- The first history does by files what the second does: in place of any exchange from p to o may
-- stand imports into o of all volumes of what p then holds. Each exchange chooses for itself, and
-- each that is replaced has a heading of its own.
pub data IsByFiles (frames : List Frame) (starts : List Facts) (files : List (List ℕ)) : History
    → History → Type 0 where
  begun : IsByFiles frames starts files [] []
  event : (e : Event × Outcome) (by past : History) → IsByFiles frames starts files by past
      → IsByFiles frames starts files (e ∷ by) (e ∷ past)
  volumes_of : (head : Head) (p o n : ℕ) (imports by past : History) → p < length frames
      → CanHead (slice_index_or frames p no_frame) head
      → AreImportsOfAll (slice_index_or frames p no_frame) head (content starts files by p) files o
      imports
      → IsByFiles frames starts files by past
      → IsByFiles frames starts files (imports ++ by) ((Exchange p o, Accepted n) ∷ past)
