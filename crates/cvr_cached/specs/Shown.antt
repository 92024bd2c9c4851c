-- A few facts of a record that show what all of them do. (This project's own.)
use Rattle.std.specs.Prelude.{◌≡◌, ℕ, List, Option, Some, None}
use Rattle.std.specs.List.{slice_get, Contains}
use Rattle.std.specs.Option.{option_map_or}
use Rattle.cvr_fact_types.specs.declared.header.HeaderFact.{HeaderFact}
use Rattle.cvr_fact_types.specs.declared.snapshot.SnapshotFact.{SnapshotFact}
use Rattle.cvr_office.specs.declared.any_fact.AnyFact.{AnyFact}
use Rattle.cvr_office.specs.declared.any_fact.AnyFact.TheVariants as any
use Rattle.cvr_cached.specs.Contents.{header_in, current_in}

-- the fact at a place
abbrev pub fact_at : List AnyFact → Option ℕ → Option AnyFact
fact_at facts place = option_map_or (slice_get facts) place None

-- some of the facts, among them the header and the current snapshot
pub record HasChosen (some facts : List AnyFact) : Type 0 where
  pub among : (fact : AnyFact) → Contains some fact → Contains facts fact
  pub header : (h : HeaderFact) → header_in facts ≡ Some h → Contains some (any.Header h)
  pub current : (s : SnapshotFact) → current_in facts ≡ Some s → Contains some (any.Snapshot s)

-- some of the facts, of which the header and the current snapshot are those of all
pub record IsShown (some facts : List AnyFact) : Type 0 where
  pub among : (fact : AnyFact) → Contains some fact → Contains facts fact
  pub header_is : header_in some ≡ header_in facts
  pub current_is : current_in some ≡ current_in facts
