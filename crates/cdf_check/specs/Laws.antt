-- Laws of definitions and of the bodies of accepted files. (This project's own.)
use Rattle.std.specs.Prelude.{◌≡◌, ◌↔◌, ◌<◌, ℕ, List, [], map, length, slice_index_or, Some, codes}
use Rattle.std.specs.List.{Contains}
use Rattle.std.specs.List.Sorted.{IsStrictlySortedBy}
use Rattle.std.specs.Ordering.{nat_cmp}
use Rattle.std.specs.Cmp.Lexicographic.{slice_cmp}
use Rattle.serde_json.specs.Data.{Data}
use Rattle.serde_json.specs.Read.{read}
use Rattle.serde_json.specs.Written.{compact_text}
use Rattle.cdf_parts.specs.Parts.{array_at, ids_at, id_of, text_at, the_election}
use Rattle.cdf_parts.specs.Places.{place_in, contest_of}
use Rattle.cdf_typed.specs.Typed.{header_of}
use Rattle.cdf_definition.specs.Named.{IdText, id_and_text, ids_of}
use Rattle.cdf_definition.specs.Frame.{Frame, entries_at, scope_in}
use Rattle.cdf_definition.specs.Sound.{IsFrame}
use Rattle.cdf_definition.specs.Acceptance.{IsReport, Valid, value_in}
use Rattle.cdf_definition.specs.Bodies.{DeviceStands, HeaderStands, SnapshotStands}

-- ---- definitions

-- what agrees with a definition has its election, and so its contests
abbrev pub SameElectionLaw : Type 0
SameElectionLaw = (frame : Frame) (bytes : List ℕ) → IsFrame frame → Valid frame bytes
    → frame.contests ≡ map contest_of (array_at (codes "Contest") (the_election (value_in bytes)))

-- the list has the objects of the array under a name, and rises strictly by id
pub record IsListOf (entries : List IdText) (name : List ℕ) (d : Data) : Type 0 where
  pub rises : IsStrictlySortedBy (slice_cmp nat_cmp) (ids_of entries)
  pub members : (e : IdText) → Contains entries e ↔ Contains (map id_and_text (array_at name d)) e

-- so do the lists of a definition
abbrev pub ListsLaw : Type 0
ListsLaw = (d : Data) → IsReport d
    → IsListOf (entries_at (codes "Election") d) (codes "Election") d
    × IsListOf (entries_at (codes "GpUnit") d) (codes "GpUnit") d
    × IsListOf (entries_at (codes "Party") d) (codes "Party") d
    × IsListOf (entries_at (codes "ReportingDevice") d) (codes "ReportingDevice") d

-- each item of the array is found by its id at its own place
abbrev pub AreFoundByIds : List ℕ → Data → Type 0
AreFoundByIds name d = (place : ℕ) → place < length (array_at name d)
    → place_in (ids_at name d) (slice_index_or (ids_at name d) place []) ≡ Some place

-- so are contests, and the selections of each
abbrev pub PlacesLaw : Type 0
PlacesLaw = (d : Data) → IsReport d → AreFoundByIds (codes "Contest") (the_election d)
    × ((c : Data) → Contains (array_at (codes "Contest") (the_election d)) c
    → AreFoundByIds (codes "ContestSelection") c)

-- ---- bodies

-- each device's body is read back as an object that would stand in a written report
abbrev pub DevicesStandLaw : Type 0
DevicesStandLaw = (frame : Frame) (bytes : List ℕ) (d : Data) → Valid frame bytes
    → Contains (array_at (codes "ReportingDevice") (value_in bytes)) d
    → DeviceStands (id_of d) d × (read (compact_text d) ≡ Some d)

-- so is each header's, by the definition and the report's devices alone
abbrev pub HeadersStandLaw : Type 0
HeadersStandLaw = (frame : Frame) (bytes : List ℕ) (c : Data) → IsFrame frame → Valid frame bytes
    → Contains (array_at (codes "CVR") (value_in bytes)) c
    → HeaderStands (scope_in frame (ids_at (codes "ReportingDevice") (value_in bytes)))
    (text_at (codes "CreatingDeviceId") c) (text_at (codes "UniqueId") c) (header_of c)
    × (read (compact_text (header_of c)) ≡ Some (header_of c))

-- and each snapshot's
abbrev pub SnapshotsStandLaw : Type 0
SnapshotsStandLaw = (frame : Frame) (bytes : List ℕ) (c s : Data) → IsFrame frame
    → Valid frame bytes
    → Contains (array_at (codes "CVR") (value_in bytes)) c
    → Contains (array_at (codes "CVRSnapshot") c) s
    → SnapshotStands (scope_in frame (ids_at (codes "ReportingDevice") (value_in bytes))) (id_of s)
    s × (read (compact_text s) ≡ Some s)
