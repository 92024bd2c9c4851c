-- The outcome of an event: an import or an exchange that is accepted, or the first cause that
-- applies. (This project's own.)
use Rattle.std.specs.Prelude.{◌≡◌, ◌≢◌, ◌<◌, ◌≤◌, ◌⊎◌, ℕ, List, [], ◌∷◌, length, slice_index_or}
use Rattle.std.specs.Prelude.{set, Option, Some, None}
use Rattle.std.specs.FinSet.{union, empty}
use Rattle.cdf_types.specs.declared.fault.ReadFault.{ReadFault}
use Rattle.cdf_types.specs.declared.fault.ReadFault.TheVariants as read
use Rattle.cdf_definition.specs.Frame.{Frame, IsSame}
use Rattle.cdf_definition.specs.Acceptance.{first_refusal}
use Rattle.cvr_fact_types.specs.Facts.{Facts}
use Rattle.cvr_facts.specs.Reports.{facts}
use Rattle.cvr_office.specs.declared.event.Event.{Event}
use Rattle.cvr_office.specs.declared.event.Event.TheVariants.{Import, Exchange}
use Rattle.cvr_office.specs.declared.event.Outcome.{Outcome}
use Rattle.cvr_office.specs.declared.event.Outcome.TheVariants.{Accepted, Refused}
use Rattle.cvr_office.specs.declared.event.Cause.TheVariants.{NoOffice, NoFile, Read, Join}
use Rattle.cvr_office.specs.declared.fault.JoinFault.TheVariants as join
use Rattle.cvr_office.specs.Readers.{growth}
use Rattle.cvr_office.specs.Reach.{History, content}

-- stands for the definition of a place that has none
abbrev pub no_frame : Frame
no_frame = record { elections = []; units = []; parties = []; devices = []; contests = [] }

-- an import that would add n facts, and is refused by this cause if there is one
abbrev pub due_outcome : Option ReadFault → ℕ → Outcome
due_outcome None n = Accepted n
due_outcome (Some fault) n = Refused (Read fault)

-- of an import of the file f into the office o: there is no such office; no such file; the file's
-- first cause; else it is accepted. Out of memory may stand in place of the last two
pub record IsImportOutcome (frames : List Frame) (files : List (List ℕ)) (held : ℕ → Facts)
    (o f : ℕ) (r : Outcome) : Type 0 where
  pub no_office : length frames ≤ o → r ≡ Refused NoOffice
  pub no_file : o < length frames → length files ≤ f → r ≡ Refused NoFile
  pub there : o < length frames → f < length files
      → (r ≡ due_outcome (first_refusal (slice_index_or frames o no_frame)
      (slice_index_or files f [])) (growth (held o) (facts (slice_index_or files f []))))
      ⊎ (r ≡ Refused (Read read.Memory))

-- Of an exchange from the office p to the office o: there are no such offices; between an office
-- and itself it is accepted with 0 new facts; their definitions differ; else it is accepted. Being
-- out of memory may stand in place of the last.
pub record IsExchangeOutcome (frames : List Frame) (held : ℕ → Facts) (p o : ℕ)
    (r : Outcome) : Type 0 where
  pub no_from : length frames ≤ p → r ≡ Refused NoOffice
  pub no_to : length frames ≤ o → r ≡ Refused NoOffice
  pub itself : p < length frames → p ≡ o → r ≡ Accepted 0
  pub other : p < length frames → o < length frames → p ≢ o
      → ¬ IsSame (slice_index_or frames o no_frame) (slice_index_or frames p no_frame)
      → r ≡ Refused (Join join.OtherDefinition)
  pub same : p < length frames → o < length frames → p ≢ o
      → IsSame (slice_index_or frames o no_frame) (slice_index_or frames p no_frame)
      → (r ≡ Accepted (growth (held o) (held p))) ⊎ (r ≡ Refused (Join join.Memory))

-- the outcome of one event among offices that have these definitions and hold this
abbrev pub IsOutcome : List Frame → List (List ℕ) → (ℕ → Facts) → Event → Outcome → Type 0
IsOutcome frames files held (Import o f) r = IsImportOutcome frames files held o f r
IsOutcome frames files held (Exchange p o) r = IsExchangeOutcome frames held p o r

-- each outcome is that of its event, after the events before it
abbrev pub AreOutcomes : List Facts → List Frame → List (List ℕ) → History → Type 0
AreOutcomes starts frames files [] = Unit {0}
AreOutcomes starts frames files (e ∷ past) = IsOutcome frames files (content starts files past) e.0
    e.1 × AreOutcomes starts frames files past

-- what an office holds after the outcome of an event that would add t
abbrev pub held_after : Outcome → Facts → Facts → Facts
held_after (Accepted n) s t = union s t
held_after (Refused cause) s t = s

-- the contents of offices after one event
abbrev pub contents_after : List (List ℕ) → Event → Outcome → List Facts → List Facts
contents_after files (Import o f) r held =
    set held o (held_after r (slice_index_or held o empty) (facts (slice_index_or files f [])))
contents_after files (Exchange p o) r held =
    set held o (held_after r (slice_index_or held o empty) (slice_index_or held p empty))
