-- The texts of an accepted file are UTF-8. (RFC 3629; JSON: RFC 8259, section 8.1.)
use Rattle.std.specs.Prelude.{◌≡◌, ℕ, List, Some, false, codes, ⊤}
use Rattle.std.specs.List.{Contains}
use Rattle.std.specs.Str.{IsUtf8}
use Rattle.serde_json.specs.Data.{Data, null, boolean, number, string, array, object, Items}
use Rattle.serde_json.specs.Data.{no_items, item, Members, no_members, member}
use Rattle.serde_json.specs.Written.{has_float, compact_text}
use Rattle.cdf_form.specs.Reading.{value_of}
use Rattle.cdf_parts.specs.PartOf.{IsPart}
use Rattle.cdf_parts.specs.Parts.{array_at, id_of, text_at}
use Rattle.cdf_parts.specs.Proper.{IsProper}
use Rattle.cdf_typed.specs.Typed.{header_of}
use Rattle.cdf_definition.specs.Frame.{Frame}
use Rattle.cdf_definition.specs.Acceptance.{Valid, value_in}

-- each text and each name in a value is UTF-8
abbrev mutual
  pub HasUtf8 : Data → Type 0
  HasUtf8 null = ⊤
  HasUtf8 (boolean b) = ⊤
  HasUtf8 (number n) = ⊤
  HasUtf8 (string s) = IsUtf8 s
  HasUtf8 (array ds) = ItemsHaveUtf8 ds
  HasUtf8 (object ms) = MembersHaveUtf8 ms

  -- in each item
  pub ItemsHaveUtf8 : Items → Type 0
  ItemsHaveUtf8 no_items = ⊤
  ItemsHaveUtf8 (item d ds) = HasUtf8 d × ItemsHaveUtf8 ds

  -- each name, and in each member
  pub MembersHaveUtf8 : Members → Type 0
  MembersHaveUtf8 no_members = ⊤
  MembersHaveUtf8 (member k d ms) = IsUtf8 k × HasUtf8 d × MembersHaveUtf8 ms

-- each text and each name in a file's value is UTF-8
abbrev pub ReadUtf8Law : Type 0
ReadUtf8Law = (bytes : List ℕ) (d : Data) → value_of bytes ≡ Some d → HasUtf8 d

-- and the compact text of each part is UTF-8
abbrev pub PartUtf8Law : Type 0
PartUtf8Law = (bytes : List ℕ) (d e : Data) → value_of bytes ≡ Some d → has_float d ≡ false
    → IsPart e d → IsUtf8 (compact_text e)

-- so is each text and name of a part, and the compact text of what is proper
abbrev pub PartHasUtf8Law : Type 0
PartHasUtf8Law = (e d : Data) → IsPart e d → HasUtf8 d → HasUtf8 e

abbrev pub ProperUtf8Law : Type 0
ProperUtf8Law = (n : ℕ) (d : Data) → IsProper n d → HasUtf8 d → IsUtf8 (compact_text d)

-- so are a text under a name, and the one that stands for an absent text
abbrev pub TextUtf8Law : Type 0
TextUtf8Law = (name : List ℕ) (d : Data) → HasUtf8 d → IsUtf8 (text_at name d)

-- a device's id and body
pub record DeviceIsUtf8 (d : Data) : Type 0 where
  pub id : IsUtf8 (id_of d)
  pub body : IsUtf8 (compact_text d)

-- a CVR's name and header
pub record HeaderIsUtf8 (c : Data) : Type 0 where
  pub device : IsUtf8 (text_at (codes "CreatingDeviceId") c)
  pub unique : IsUtf8 (text_at (codes "UniqueId") c)
  pub body : IsUtf8 (compact_text (header_of c))

-- a snapshot's id and body
pub record SnapshotIsUtf8 (s : Data) : Type 0 where
  pub id : IsUtf8 (id_of s)
  pub body : IsUtf8 (compact_text s)

-- those of each device, CVR and snapshot of an accepted file
pub record BodiesAreUtf8 (bytes : List ℕ) : Type 0 where
  pub devices : (d : Data) → Contains (array_at (codes "ReportingDevice") (value_in bytes)) d
      → DeviceIsUtf8 d
  pub headers : (c : Data) → Contains (array_at (codes "CVR") (value_in bytes)) c → HeaderIsUtf8 c
  pub snapshots : (c s : Data) → Contains (array_at (codes "CVR") (value_in bytes)) c
      → Contains (array_at (codes "CVRSnapshot") c) s → SnapshotIsUtf8 s

abbrev pub BodiesUtf8Law : Type 0
BodiesUtf8Law = (frame : Frame) (bytes : List ℕ) → Valid frame bytes → BodiesAreUtf8 bytes
