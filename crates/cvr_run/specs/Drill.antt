-- A drill: several new offices of one definition, and steps by which they take in files and what
-- others hold. (This project's own.)
use Rattle.std.specs.Prelude.{◌≡◌, ◌<◌, ◌+◌, ◌==◌, ◌&&◌, ◌||◌, ℕ, zero, suc, List, [], ◌∷◌, ◌++◌}
use Rattle.std.specs.Prelude.{length, map, replicate, reverse, slice_index_or, codes, decimal}
use Rattle.std.specs.Prelude.{nat_le, Bool}
use Rattle.std.specs.Prelude.{if◌then◌else◌, Option, Some, None, is_some}
use Rattle.std.specs.List.{list_any, flat_map, range_with_len, position_or_len}
use Rattle.std.specs.FinSet.{empty, len, is_subset}
use Rattle.cdf_definition.specs.Frame.{Frame}
use Rattle.cdf_definition.specs.Acceptance.{first_refusal}
use Rattle.cvr_fact_types.specs.Facts.{Facts}
use Rattle.cvr_facts.specs.Reports.{facts}
use Rattle.cvr_office.specs.declared.event.Cause.{Cause}
use Rattle.cvr_office.specs.declared.event.Cause.TheVariants.{Join, NoOffice, NoFile}
use Rattle.cvr_office.specs.declared.event.Event.{Event}
use Rattle.cvr_office.specs.declared.event.Event.TheVariants as event
use Rattle.cvr_office.specs.declared.event.Outcome.{Outcome}
use Rattle.cvr_office.specs.declared.event.Outcome.TheVariants.{Accepted, Refused}
use Rattle.cvr_office.specs.declared.fault.JoinFault.TheVariants as join
use Rattle.cvr_office.specs.CanHold.{starting_content}
use Rattle.cvr_office.specs.Names.{records}
use Rattle.cvr_office.specs.Outcomes.{no_frame}
use Rattle.cvr_office.specs.Reach.{History, content}
use Rattle.cvr_office.specs.Readers.{growth}
use Rattle.cvr_words.specs.declared.request.Act.{Act}
use Rattle.cvr_words.specs.declared.request.Act.TheVariants.{Import, Exchange}
use Rattle.cvr_words.specs.declared.request.Step.{Step}
use Rattle.cvr_run.specs.Refusals.{Due, no_due, file_due}

-- ---- steps as events

-- the place of the office with this number among n offices: numbers count from 1, places from 0.
-- There is no office 0: its place is one above the last
abbrev pub place_of : ℕ → ℕ → ℕ
place_of n zero = n
place_of n (suc k) = k

-- what a step does
abbrev pub event_of : ℕ → Act → Event
event_of n (Import office path) = event.Import (place_of n office) path
event_of n (Exchange from to) = event.Exchange (place_of n from) (place_of n to)

-- what the steps do, in order
abbrev pub events_of : ℕ → List Step → List Event
events_of n steps = map (λ step. event_of n step.act) steps

-- their texts, as given
abbrev pub step_texts : List Step → List (List ℕ)
step_texts steps = map (λ step. step.text) steps

-- ---- what is due to each

-- a refusal by this cause, which running out of memory can't hide
abbrev pub certain_due : Cause → Due
certain_due cause = record { cause = Some cause; want = None }

-- an exchange, which is accepted unless memory runs out
abbrev pub exchange_due : Due
exchange_due = record { cause = None; want = Some (Join join.Memory) }

-- among n offices of one definition, of an import: there is no such office; no such file; else what
-- is due to the file. Of an exchange: there is no such office; nothing between an office and
-- itself; else it is accepted
abbrev pub event_due : Frame → ℕ → List (List ℕ) → Event → Due
event_due definition n files (event.Import o f) =
    if nat_le n o then certain_due NoOffice
    else (if nat_le (length files) f then certain_due NoFile
    else file_due (first_refusal definition (slice_index_or files f [])))
event_due definition n files (event.Exchange p o) = if nat_le n p || nat_le n o
    then certain_due NoOffice else (if p == o then no_due else exchange_due)

abbrev pub step_due : Frame → ℕ → List (List ℕ) → Step → Due
step_due definition n files step = event_due definition n files (event_of n step.act)

abbrev pub step_dues : Frame → ℕ → List (List ℕ) → List Step → List Due
step_dues definition n files steps = map (step_due definition n files) steps

-- whether a step is refused
abbrev pub drill_refused : Frame → ℕ → List (List ℕ) → List Step → Bool
drill_refused definition n files steps =
    list_any (λ due. is_some due.cause) (step_dues definition n files steps)

-- ---- what the offices then hold

-- how many facts an accepted event brings, over what each office holds
abbrev pub brings : List (List ℕ) → (ℕ → Facts) → Event → ℕ
brings files held (event.Import o f) = growth (held o) (facts (slice_index_or files f []))
brings files held (event.Exchange p o) = growth (held o) (held p)

-- refused by the cause, if there is one; else accepted with n new facts
abbrev pub outcome_by : Option Cause → ℕ → Outcome
outcome_by None n = Accepted n
outcome_by (Some cause) n = Refused cause

-- what n new offices of one definition hold
abbrev pub new_offices : Frame → ℕ → List Facts
new_offices definition n = replicate n (starting_content definition)

-- these events with their outcomes, the newest first: each after those before it
abbrev pub past_of : Frame → ℕ → List (List ℕ) → List Event → History
past_of definition n files [] = []
past_of definition n files (e ∷ earlier) =
    let past = past_of definition n files earlier in (
      e,
      outcome_by (event_due definition n files e).cause
          (brings files (content (new_offices definition n) files past) e),
    ) ∷ past

-- what each office holds after the steps, in order of number
abbrev pub drill_contents : Frame → ℕ → List (List ℕ) → List Step → List Facts
drill_contents definition n files steps = map
    (content (new_offices definition n) files
    (past_of definition n files (reverse (events_of n steps)))) (range_with_len 0 n)

-- the offices have one definition
abbrev pub AreOfOne : List Frame → Type 0
AreOfOne frames = (p o : ℕ) → p < length frames → o < length frames
    → slice_index_or frames p no_frame ≡ slice_index_or frames o no_frame

-- ---- the text

-- the same facts: each of one is in the other
abbrev pub are_same : Facts → Facts → Bool
are_same s t = is_subset s t && is_subset t s

-- the least number of an office that holds these facts
abbrev pub least_same : List Facts → Facts → ℕ
least_same all s = position_or_len (are_same s) all + 1

-- the number of the office at a place; how many records and facts it holds; the least number of one
-- that holds the same
abbrev pub office_line : List Facts → ℕ → List ℕ
office_line all o =
    let s = slice_index_or all o empty in
    codes "office " ++ (decimal (o + 1)
    ++ (codes " records " ++ (decimal (length (records s))
    ++ (codes " facts " ++ (decimal (len s)
    ++ (codes " same " ++ (decimal (least_same all s) ++ 10 ∷ [])))))))

-- a line for each office, in order of number
abbrev pub office_lines : List Facts → List ℕ
office_lines all = flat_map (office_line all) (range_with_len 0 (length all))

abbrev pub drill_text : Frame → ℕ → List (List ℕ) → List Step → List ℕ
drill_text definition n files steps = office_lines (drill_contents definition n files steps)
