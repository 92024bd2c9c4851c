-- The run of a record: its facts, which stand together in a list in order. (This project's own.)
use Rattle.std.specs.Prelude.{◌≡◌, List, [], ◌∷◌, Bool, Option, Some, None}
use Rattle.std.specs.List.{filter, filter_map, Contains}
use Rattle.std.specs.declared.cmp.Ordering.{Ordering}
use Rattle.std.specs.Ordering.{is_eq}
use Rattle.std.specs.Option.{option_cmp}
use Rattle.cdf_parts.specs.Places.{Contest}
use Rattle.cdf_typed.specs.Greatest.{max_of}
use Rattle.cvr_fact_types.specs.declared.name.RecordName.{RecordName}
use Rattle.cvr_fact_types.specs.declared.header.HeaderFact.{HeaderFact}
use Rattle.cvr_fact_types.specs.declared.snapshot.SnapshotFact.{SnapshotFact}
use Rattle.cvr_fact_types.specs.Facts.{name_cmp}
use Rattle.cvr_facts.specs.Choosing.{fact_choice, IsGreatest}
use Rattle.cvr_office.specs.declared.any_fact.AnyFact.{AnyFact}
use Rattle.cvr_office.specs.declared.any_fact.AnyFact.TheVariants as any
use Rattle.cvr_office.specs.Names.{record_of}
use Rattle.cvr_office.specs.Place.{fact_of}
use Rattle.cvr_office.specs.Plain.{IsSpelled}

-- how a fact's record compares with this one; a device stands before all records
abbrev pub record_order : RecordName → AnyFact → Ordering
record_order key fact = option_cmp name_cmp (record_of (fact_of fact)) (Some key)

-- whether it is a fact of the record
abbrev pub is_of : RecordName → AnyFact → Bool
is_of key fact = is_eq (record_order key fact)

-- the facts of the record
abbrev pub run : RecordName → List AnyFact → List AnyFact
run key facts = filter (is_of key) facts

-- the record of the first fact, if it is of one
abbrev pub first_record : List AnyFact → Option RecordName
first_record [] = None
first_record (fact ∷ facts) = record_of (fact_of fact)

abbrev pub as_header : AnyFact → Option HeaderFact
as_header (any.Header h) = Some h
as_header fact = None

abbrev pub as_snapshot : AnyFact → Option SnapshotFact
as_snapshot (any.Snapshot s) = Some s
as_snapshot fact = None

-- the headers of a list, and its snapshots
abbrev pub headers : List AnyFact → List HeaderFact
headers facts = filter_map as_header facts

abbrev pub snapshots : List AnyFact → List SnapshotFact
snapshots facts = filter_map as_snapshot facts

-- each fact of the list is spelled
abbrev pub AreSpelled : List Contest → List AnyFact → Type 0
AreSpelled contests facts = (fact : AnyFact) → Contains facts fact → IsSpelled contests fact

-- the greater of two snapshots by the order of choosing, or the only one
abbrev pub chosen_snapshot : Option SnapshotFact → SnapshotFact → SnapshotFact
chosen_snapshot None other = other
chosen_snapshot (Some one) other = max_of fact_choice one other

-- the greatest of these, if there are any
abbrev pub IsChosen : List SnapshotFact → Option SnapshotFact → Type 0
IsChosen found None = found ≡ []
IsChosen found (Some s) = IsGreatest fact_choice found s
