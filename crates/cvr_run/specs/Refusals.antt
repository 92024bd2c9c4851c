-- What a run has refused, and its status. (This project's own.)
use Rattle.std.specs.Prelude.{◌≡◌, ◌<◌, ℕ, List, length, slice_index_or, Bool, true, false, ◌||◌}
use Rattle.std.specs.Prelude.{if◌then◌else◌, Option, Some, None, is_some, option_map}
use Rattle.std.specs.Option.{option_map_or}
use Rattle.cdf_types.specs.declared.fault.ReadFault.{ReadFault}
use Rattle.cdf_types.specs.declared.fault.ReadFault.TheVariants.{Memory}
use Rattle.cvr_office.specs.declared.event.Cause.{Cause}
use Rattle.cvr_office.specs.declared.event.Cause.TheVariants.{Read, Join}
use Rattle.cvr_office.specs.declared.event.Outcome.{Outcome}
use Rattle.cvr_office.specs.declared.event.Outcome.TheVariants as outcome
use Rattle.cvr_office.specs.declared.fault.JoinFault.TheVariants as join
use Rattle.cvr_run.specs.declared.refusals.Refusals.{Refusals}
use Rattle.cvr_run.specs.declared.status.Status.{Status}
use Rattle.cvr_run.specs.declared.status.Status.TheVariants as status

-- whether a file was refused since memory ran out
abbrev pub is_memory : ReadFault → Bool
is_memory Memory = true
is_memory fault = false

-- the same of any cause
abbrev pub wants_memory : Cause → Bool
wants_memory (Read fault) = is_memory fault
wants_memory (Join join.Memory) = true
wants_memory cause = false

-- the cause for which an outcome says that something was refused
abbrev pub cause_in : Outcome → Option Cause
cause_in (outcome.Accepted n) = None
cause_in (outcome.Refused cause) = Some cause

-- whether it says so
abbrev pub is_refusal : Outcome → Bool
is_refusal outcome = is_some (cause_in outcome)

-- whether it says so since memory ran out
abbrev pub is_want : Outcome → Bool
is_want outcome = option_map_or wants_memory (cause_in outcome) false

-- what is due to a file or a step: the cause for which it is refused, if there is one; and the
-- out-of-memory cause that may be logged in its place, if it takes memory
pub record Due : Type 0 where
  pub cause : Option Cause
  pub want : Option Cause

-- nothing
abbrev pub no_due : Due
no_due = record { cause = None; want = None }

-- what is due to a file with this first fault, or none
abbrev pub file_due : Option ReadFault → Due
file_due fault = record { cause = option_map Read fault; want = Some (Read Memory) }

-- it was accepted where that is due, or refused by the cause that is due, or since memory ran out
-- in its place
abbrev pub IsDue : Due → Option Cause → Type 0
IsDue due None = due.cause ≡ None
IsDue due (Some cause) = (if wants_memory cause then due.want else due.cause) ≡ Some cause

-- each outcome is so
pub record AreDue (dues : List Due) (outcomes : List Outcome) : Type 0 where
  pub count : length dues ≡ length outcomes
  pub each : (k : ℕ) → k < length outcomes
      → IsDue (slice_index_or dues k no_due)
      (cause_in (slice_index_or outcomes k (outcome.Accepted 0)))

-- out of memory is worst, then a refusal
abbrev pub status_of : Refusals → Status
status_of r = if r.file_lacking || r.path_unspelled then status.Memory
    else (if r.any_refusal then status.Refused else status.Done)
