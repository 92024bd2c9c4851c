-- Which facts stand under the names of a record and of a device, and in which order names stand.
-- (This project's own.)
use Rattle.std.specs.Prelude.{◌≡◌, ◌↔◌, ℕ, List, map, true}
use Rattle.std.specs.List.{Contains, filter, filter_map}
use Rattle.std.specs.Cmp.{IsTotalOrder}
use Rattle.std.specs.FinMap.{IsAntisymmetric}
use Rattle.std.specs.FinSet.{contains, items}
use Rattle.cdf_parts.specs.Places.{Texts}
use Rattle.cdf_check.specs.Wider.{Includes}
use Rattle.cvr_fact_types.specs.declared.name.RecordName.{RecordName}
use Rattle.cvr_fact_types.specs.Facts.{Device, Header, Snapshot, Facts, name_cmp}
use Rattle.cvr_office.specs.declared.conflict.ConflictName.TheVariants as name
use Rattle.cvr_office.specs.Names.{is_named, body_of, id_in, device_in, conflict_cmp}

-- ---- records

-- the bodies under a record's header are those of its facts
abbrev pub HeaderUnderLaw : Type 0
HeaderUnderLaw = (key : RecordName) (s : Facts) (b : List ℕ)
    → Contains (map body_of (filter (is_named (name.Header key)) (items s))) b
    ↔ (contains s (Header key.device key.unique b) ≡ true)

-- so are those under the id of a snapshot
abbrev pub SnapshotUnderLaw : Type 0
SnapshotUnderLaw = (key : RecordName) (s : Facts) (id b : List ℕ)
    → Contains (map body_of (filter (is_named (name.Snapshot key id)) (items s))) b
    ↔ (contains s (Snapshot key.device key.unique id b) ≡ true)

-- an id of a record is one that some snapshot of it has
abbrev pub IdUnderLaw : Type 0
IdUnderLaw = (key : RecordName) (s : Facts) (id : List ℕ)
    → Contains (filter_map (id_in key) (items s)) id
    ↔ ((b : List ℕ) × (contains s (Snapshot key.device key.unique id b) ≡ true))

-- ---- devices

abbrev pub device_ids : Facts → Texts
device_ids s = filter_map device_in (items s)

-- an id of a device is one that some fact has
abbrev pub KnownDeviceLaw : Type 0
KnownDeviceLaw = (s : Facts) (id : List ℕ) → Contains (device_ids s) id
    → (body : List ℕ) × (contains s (Device id body) ≡ true)

abbrev pub DeviceKnownLaw : Type 0
DeviceKnownLaw = (s : Facts) (id body : List ℕ) → contains s (Device id body) ≡ true
    → Contains (device_ids s) id

-- a list whose ids all stand in another one is included in it
abbrev pub IncludesLaw : Type 0
IncludesLaw = (xs ys : Texts) → ((id : List ℕ) → Contains xs id → Contains ys id) → Includes xs ys

-- ---- order

-- names of records, and names of conflicts, are in a total order in which only equal ones tie
abbrev pub RecordsInOrder : Type 0
RecordsInOrder = IsTotalOrder name_cmp

abbrev pub RecordsAreExact : Type 0
RecordsAreExact = IsAntisymmetric name_cmp

abbrev pub NamesInOrder : Type 0
NamesInOrder = IsTotalOrder conflict_cmp

abbrev pub NamesAreExact : Type 0
NamesAreExact = IsAntisymmetric conflict_cmp
