-- Scopes that name more, and laws of what stands in them. (This project's own.)
use Rattle.std.specs.Prelude.{◌≡◌, ℕ, List, [], true, bytes_eq, codes}
use Rattle.std.specs.List.{list_any, Contains}
use Rattle.serde_json.specs.Data.{Data}
use Rattle.cdf_parts.specs.Parts.{array_at, ids_at}
use Rattle.cdf_parts.specs.Places.{Texts}
use Rattle.cdf_definition.specs.Paths.{Path, each}
use Rattle.cdf_definition.specs.References.{Scope, one, many, in_snapshot, in_cvr}
use Rattle.cdf_definition.specs.Frame.{Frame, scope_in}
use Rattle.cdf_definition.specs.Bodies.{HeaderStands, SnapshotStands}

-- each text of the first list is in the second
abbrev pub Includes : Texts → Texts → Type 0
Includes xs ys = (s : List ℕ) → list_any (bytes_eq s) xs ≡ true → list_any (bytes_eq s) ys ≡ true

-- what the first names, the second does, with the same contests
pub record Wider (a b : Scope) : Type 0 where
  pub elections : Includes a.elections b.elections
  pub units : Includes a.units b.units
  pub parties : Includes a.parties b.parties
  pub devices : Includes a.devices b.devices
  pub contests : a.contests ≡ b.contests

-- of one definition, more devices name more
abbrev pub MoreDevicesLaw : Type 0
MoreDevicesLaw = (frame : Frame) (xs ys : Texts) → Includes xs ys
    → Wider (scope_in frame xs) (scope_in frame ys)

-- a header that stands also stands where more is named
abbrev pub HeaderStaysLaw : Type 0
HeaderStaysLaw = (a b : Scope) → Wider a b → (device unique : List ℕ) (d : Data)
    → HeaderStands a device unique d → HeaderStands b device unique d

-- so does a snapshot
abbrev pub SnapshotStaysLaw : Type 0
SnapshotStaysLaw = (a b : Scope) → Wider a b → (id : List ℕ) (d : Data) → SnapshotStands a id d
    → SnapshotStands b id d

-- ---- the references of a CVR

-- no reference is missing, part by part
pub record IsResolved (a : Scope) (d : Data) : Type 0 where
  pub unit : one a.units (codes "BallotStyleUnitId") d ≡ []
  pub snapshots : each (in_snapshot a) (codes "CVRSnapshot") d ≡ []
  pub device : one a.devices (codes "CreatingDeviceId") d ≡ []
  pub current : one (ids_at (codes "CVRSnapshot") d) (codes "CurrentSnapshotId") d ≡ []
  pub election : one a.elections (codes "ElectionId") d ≡ []
  pub parties : many a.parties (codes "PartyIds") d ≡ []

-- where a CVR has none missing, no part of it has
abbrev pub ResolvedLaw : Type 0
ResolvedLaw = (a : Scope) (d : Data) → in_cvr a d ≡ [] → IsResolved a d

-- where an array has none missing, no item of it has
abbrev pub EachLaw : Type 0
EachLaw = (paths : Data → List Path) (name : List ℕ) (d e : Data) → each paths name d ≡ []
    → Contains (array_at name d) e → paths e ≡ []
