-- What an office that remembers keeps. (This project's own.)
use Rattle.std.specs.Prelude.{◌≡◌, ℕ, List, ◌<◌, ◌^◌, length, Some, None, ⊤}
use Rattle.std.specs.List.{Contains}
use Rattle.std.specs.List.Sorted.{IsStrictlySortedBy}
use Rattle.std.specs.Map.{keys_of}
use Rattle.std.specs.FinSet.{union}
use Rattle.std.specs.Coded.{Coded, code_by, coded×, coded_ℕ}
use Rattle.std.proofs.Common.{refl}
use Rattle.cdf_parts.specs.Places.{Contest}
use Rattle.cdf_definition.specs.Frame.{Frame}
use Rattle.cvr_fact_types.specs.declared.name.RecordName.{RecordName}
use Rattle.cvr_fact_types.specs.Facts.{name_cmp}
use Rattle.cvr_tally.specs.Rows.{TotalsValue}
use Rattle.cvr_office.specs.declared.any_fact.AnyFact.{AnyFact}
use Rattle.cvr_office.specs.declared.any_fact.AnyFact.TheVariants as any
use Rattle.cvr_office.specs.CanHold.{CanHold}
use Rattle.cvr_office.specs.Names.{record_of}
use Rattle.cvr_office.specs.Place.{fact_of, any_cmp}
use Rattle.cvr_office.specs.Plain.{set_of, IsPlain, IsSpelled, Content, coded_content}
use Rattle.cvr_office.specs.Adding.{AreSums}
use Rattle.cvr_office.specs.Tallied.{rows}
use Rattle.cvr_cached.specs.Contents.{Entries, content_at, fact_list}

-- devices are of no record; each content is of its record, in order, and not empty
pub record AreOwn (devices : List AnyFact) (es : Entries) : Type 0 where
  pub names_rise : IsStrictlySortedBy name_cmp (keys_of es)
  pub devices_rise : IsStrictlySortedBy any_cmp devices
  pub devices_are : (f : AnyFact) → Contains devices f → record_of (fact_of f) ≡ None
  pub contents_rise : (k : RecordName) (facts : List AnyFact) → content_at es k ≡ Some facts
      → IsStrictlySortedBy any_cmp facts
  pub contents_are : (k : RecordName) (facts : List AnyFact) → content_at es k ≡ Some facts
      → (f : AnyFact) → Contains facts f → record_of (fact_of f) ≡ Some k
  pub full : (k : RecordName) (facts : List AnyFact) → content_at es k ≡ Some facts
      → 0 < length facts

-- what is kept: the facts of devices, the contents of records by name, and the running totals
pub record Stored : Type 0 where
  pub devices : List AnyFact
  pub records : Entries
  pub totals : TotalsValue

-- all its facts: the devices, then record by record
abbrev pub facts_of : Stored → List AnyFact
facts_of s = fact_list s.devices s.records

-- the running totals are exactly the rows from the facts; the facts are counted, fewer than 2^64
pub record IsHeld (s : Stored) (count : ℕ) : Type 0 where
  pub own : AreOwn s.devices s.records
  pub rows_are : s.totals.rows ≡ rows s.totals.contests (set_of (facts_of s))
  pub counted : count ≡ length (facts_of s)
  pub fits : count < 2 ^ 64

-- its list of facts is a plain office's; the rows are of the definition's contests
pub record IsCached (frame : Frame) (s : Stored) : Type 0 where
  pub plain : IsPlain frame (facts_of s)
  pub contests_are : s.totals.contests ≡ frame.contests

-- ---- what comes

-- a snapshot's sums are those of contests of the definition
abbrev pub IsSummed : List Contest → AnyFact → Type 0
IsSummed contests (any.Snapshot s) = AreSums contests s.votes
IsSummed contests fact = ⊤

-- what stands is an office's, and what comes keeps it so
pub record CanTake (s : Stored) (more : List AnyFact) : Type 0 where
  pub frame : Frame
  pub before : IsCached frame s
  pub spelled : (fact : AnyFact) → Contains more fact → IsSpelled frame.contests fact
  pub can_hold : CanHold frame (union (set_of (facts_of s)) (set_of more))

-- ---- the office

-- a definition, facts, and how often a row was changed
pub record Holding : Type 0 where
  pub content : Content
  pub moves : ℕ

abbrev pub coded_holding : Coded Holding
coded_holding = code_by (Content × ℕ) (coded× coded_content coded_ℕ) (λ h. (h.content, h.moves))
    (λ p. record { content = p.0; moves = p.1 }) (λ _. refl)
