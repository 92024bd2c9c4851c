-- The names of facts and their bodies, in order; conflicts. A name is a fact without its body.
-- (This project's own.)
use Rattle.std.specs.Prelude.{ℕ, List, [], ◌∷◌, map, length, Bool, false, ◌&&◌, bytes_eq, nat_le}
use Rattle.std.specs.Prelude.{if◌then◌else◌, Option, Some, None}
use Rattle.std.specs.List.{filter, filter_map}
use Rattle.std.specs.FinSet.{items}
use Rattle.std.specs.declared.cmp.Ordering.{Ordering}
use Rattle.std.specs.Ordering.{on}
use Rattle.std.specs.Cmp.Lexicographic.{slice_cmp}
use Rattle.cvr_fact_types.specs.declared.name.RecordName.{RecordName}
use Rattle.cvr_fact_types.specs.Facts.{Fact, Facts, text_cmp, name_cmp}
use Rattle.cvr_fact_types.specs.Facts.{Device, Header, Snapshot}
use Rattle.cvr_facts.specs.Ordered.{keys_in_order}
use Rattle.cvr_facts.specs.Choosing.{is_name}
use Rattle.cvr_office.specs.declared.conflict.ConflictName.{ConflictName}
use Rattle.cvr_office.specs.declared.conflict.ConflictName.TheVariants as name
use Rattle.cvr_office.specs.declared.conflict.Conflict.{Conflict}

-- ---- names

-- a fact without its body
abbrev pub name_of : Fact → ConflictName
name_of (Device id body) = name.Device id
name_of (Header device unique body) = name.Header (record { device = device; unique = unique })
name_of (Snapshot device unique id body) =
    name.Snapshot (record { device = device; unique = unique }) id

-- the body of a fact
abbrev pub body_of : Fact → List ℕ
body_of (Device id body) = body
body_of (Header device unique body) = body
body_of (Snapshot device unique id body) = body

-- a name as texts: devices before records, a header before its record's snapshots
abbrev pub name_key : ConflictName → List (List ℕ)
name_key (name.Device id) = (0 ∷ []) ∷ id ∷ []
name_key (name.Header key) = (1 ∷ []) ∷ key.device ∷ key.unique ∷ []
name_key (name.Snapshot key id) = (1 ∷ []) ∷ key.device ∷ key.unique ∷ id ∷ []

-- devices in order of id, then records in order, the header before snapshots, then by snapshot id
abbrev pub conflict_cmp : ConflictName → ConflictName → Ordering
conflict_cmp = on name_key (slice_cmp text_cmp)

-- ---- bodies

-- whether a fact has this name
abbrev pub is_named : ConflictName → Fact → Bool
is_named (name.Device id) (Device i b) = bytes_eq id i
is_named (name.Header key) (Header d u b) = is_name key d u
is_named (name.Snapshot key id) (Snapshot d u i b) = is_name key d u && bytes_eq id i
is_named n f = false

-- the bodies under a name, each once, in byte order
abbrev pub bodies_under : Facts → ConflictName → List (List ℕ)
bodies_under facts n = keys_in_order text_cmp (map body_of (filter (is_named n) (items facts)))

-- how many they are
abbrev pub count_under : Facts → ConflictName → ℕ
count_under facts n = length (bodies_under facts n)

-- ---- lists of names, in order

-- the names among facts, each once, in order
abbrev pub names : Facts → List ConflictName
names facts = keys_in_order conflict_cmp (map name_of (items facts))

-- the record that a fact is of, if it is of one; the device id of a fact, if it is one of a device
abbrev pub record_of : Fact → Option RecordName
record_of (Device id body) = None
record_of (Header device unique body) = Some (record { device = device; unique = unique })
record_of (Snapshot device unique id body) = Some (record { device = device; unique = unique })

-- the records among facts, and the device ids, each once, in order
abbrev pub records : Facts → List RecordName
records facts = keys_in_order name_cmp (filter_map record_of (items facts))

abbrev pub device_in : Fact → Option (List ℕ)
device_in (Device id body) = Some id
device_in fact = None

abbrev pub devices : Facts → List (List ℕ)
devices facts = keys_in_order text_cmp (filter_map device_in (items facts))

-- the snapshot's id, where a fact is one of the record
abbrev pub id_in : RecordName → Fact → Option (List ℕ)
id_in key (Snapshot d u i b) = if is_name key d u then Some i else None
id_in key fact = None

-- the ids of a record's snapshots among facts, each once, in byte order
abbrev pub snapshot_ids : Facts → RecordName → List (List ℕ)
snapshot_ids facts key = keys_in_order text_cmp (filter_map (id_in key) (items facts))

-- ---- conflicts

-- a name with the number of its bodies
abbrev pub conflict_of : Facts → ConflictName → Conflict
conflict_of facts n = record { name = n; bodies = count_under facts n }

-- the names with at least two bodies, in order
abbrev pub conflicts : Facts → List Conflict
conflicts facts = filter (λ c. nat_le 2 c.bodies) (map (conflict_of facts) (names facts))

-- the greatest of some numbers, 0 where there is none
abbrev pub most : List ℕ → ℕ
most [] = 0
most (n ∷ ns) = if nat_le n (most ns) then most ns else n

-- the greatest number of bodies under one name
abbrev pub greatest_count : Facts → ℕ
greatest_count facts = most (map (count_under facts) (names facts))
