-- What a fact of an accepted file keeps: its fields are those that its body spells, and its body
-- would stand in a written report. (This project's own.)
use Rattle.std.specs.Prelude.{◌≡◌, ℕ, List, true, Some, codes, ⊤}
use Rattle.std.specs.List.{Contains}
use Rattle.std.specs.FinSet.{contains}
use Rattle.serde_json.specs.Data.{Data}
use Rattle.serde_json.specs.Read.{read}
use Rattle.serde_json.specs.Written.{compact_text}
use Rattle.cdf_parts.specs.Parts.{id_of, text_at, text_in}
use Rattle.cdf_parts.specs.Places.{Contest}
use Rattle.cdf_typed.specs.Typed.{kind_of, moment_of, snapshot_of}
use Rattle.cdf_definition.specs.References.{Scope}
use Rattle.cdf_definition.specs.Bodies.{DeviceStands, HeaderStands, SnapshotStands}
use Rattle.cvr_fact_types.specs.declared.device.DeviceFact.{DeviceFact}
use Rattle.cvr_fact_types.specs.declared.header.HeaderFact.{HeaderFact}
use Rattle.cvr_fact_types.specs.declared.snapshot.SnapshotFact.{SnapshotFact}
use Rattle.cvr_facts.specs.declared.list.FactList.{FactList}
use Rattle.cvr_fact_types.specs.Facts.{Fact, Device, Header, Snapshot, Facts}
use Rattle.cvr_facts.specs.Choosing.{data_of}
use Rattle.cvr_facts.specs.Sums.{sums_in}

-- ---- fields by their bodies

-- the fields of a device fact (header fact, snapshot fact) are those that its body spells
pub record IsSpelledDevice (d : DeviceFact) : Type 0 where
  pub id : d.id ≡ id_of (data_of d.body)

pub record IsSpelledHeader (h : HeaderFact) : Type 0 where
  pub device : h.key.device ≡ text_at (codes "CreatingDeviceId") (data_of h.body)
  pub unique : h.key.unique ≡ text_at (codes "UniqueId") (data_of h.body)
  pub unit : h.unit ≡ text_in (codes "BallotStyleUnitId") (data_of h.body)
  pub batch : h.batch ≡ text_in (codes "BatchId") (data_of h.body)

-- beside these contests
pub record IsSpelledSnapshot (contests : List Contest) (s : SnapshotFact) : Type 0 where
  pub id : s.id ≡ id_of (data_of s.body)
  pub kind : s.kind ≡ kind_of (data_of s.body)
  pub moment : s.moment ≡ moment_of (data_of s.body)
  pub votes : s.votes ≡ sums_in contests (snapshot_of contests (data_of s.body)).contests

-- so it is with each fact of a list
pub record ListIsSpelled (contests : List Contest) (list : FactList) : Type 0 where
  pub devices : (d : DeviceFact) → Contains list.devices d → IsSpelledDevice d
  pub headers : (h : HeaderFact) → Contains list.headers h → IsSpelledHeader h
  pub snapshots : (s : SnapshotFact) → Contains list.snapshots s → IsSpelledSnapshot contests s

-- ---- bodies that would stand in a written report

-- the text of this value, which is read back from it
abbrev pub Spells : List ℕ → Data → Type 0
Spells body d = (body ≡ compact_text d) × (read body ≡ Some d)

-- its body would stand in a report, where references name objects of the scope
abbrev pub Stands : Scope → Fact → Type 0
Stands scope (Device id body) = (d : Data) × Spells body d × DeviceStands id d
Stands scope (Header device unique body) = (d : Data) × Spells body d
    × HeaderStands scope device unique d
Stands scope (Snapshot device unique id body) = (d : Data) × Spells body d
    × SnapshotStands scope id d

-- ---- records

-- among the facts are a header of the record, a snapshot of it and its device
pub record HasRecord (held : Facts) (device unique : List ℕ) : Type 0 where
  pub header : (body : List ℕ) × (contains held (Header device unique body) ≡ true)
  pub snapshot : (id : List ℕ) × (body : List ℕ)
      × (contains held (Snapshot device unique id body) ≡ true)
  pub creator : (body : List ℕ) × (contains held (Device device body) ≡ true)

-- so it is with the record that a fact belongs to, if it belongs to one
abbrev pub IsOfRecord : Facts → Fact → Type 0
IsOfRecord held (Device id body) = ⊤
IsOfRecord held (Header device unique body) = HasRecord held device unique
IsOfRecord held (Snapshot device unique id body) = HasRecord held device unique
