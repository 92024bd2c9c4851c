-- What the records of a report name, which the rest of it has to list. (This project's own.)
use Rattle.std.specs.Prelude.{◌≡◌, ℕ, List, [], Bool, true, bytes_eq, codes}
use Rattle.std.specs.List.{list_any, list_all, cons_option, filter_map, flat_map}
use Rattle.serde_json.specs.Data.{Data}
use Rattle.serde_json.specs.Find.{as_str}
use Rattle.cdf_parts.specs.Parts.{array_at, ids_at, text_in}
use Rattle.cdf_parts.specs.Places.{Texts}
use Rattle.cdf_definition.specs.Frame.{Frame}
use Rattle.cdf_definition.specs.Lists.{HasRest}
use Rattle.cdf_definition.specs.Named.{ids_of}
use Rattle.cdf_check.specs.declared.record_names.RecordNames.{RecordNames}

-- the device, the unit and the parties that a record names
abbrev pub named_device : Data → Texts
named_device cvr = cons_option (text_in (codes "CreatingDeviceId") cvr) []

abbrev pub named_unit : Data → Texts
named_unit cvr = cons_option (text_in (codes "BallotStyleUnitId") cvr) []

abbrev pub named_parties : Data → Texts
named_parties cvr = filter_map as_str (array_at (codes "PartyIds") cvr)

-- the same texts, in any order and any number
abbrev pub SameTexts : Texts → Texts → Type 0
SameTexts xs ys = (s : List ℕ) → list_any (bytes_eq s) xs ≡ list_any (bytes_eq s) ys

-- these are the devices, units and parties that the records name
pub record AreNamed (ds : List Data) (names : RecordNames) : Type 0 where
  pub devices : SameTexts names.devices (flat_map named_device ds)
  pub units : SameTexts names.units (flat_map named_unit ds)
  pub parties : SameTexts names.parties (flat_map named_parties ds)

-- each of the texts is one of the ids
abbrev pub lists : Texts → Texts → Bool
lists ids texts = list_all (λ s. list_any (bytes_eq s) ids) texts

-- the rest of a file lists each of them
pub record ListsNamed (left : Data) (names : RecordNames) : Type 0 where
  pub devices : lists (ids_at (codes "ReportingDevice") left) names.devices ≡ true
  pub units : lists (ids_at (codes "GpUnit") left) names.units ≡ true
  pub parties : lists (ids_at (codes "Party") left) names.parties ≡ true

-- what is left of a file that has the lists of its definition: its rest is that of a report, and
-- the devices that records name are listed in it, the units and parties in the definition
pub record RestSettles (frame : Frame) (left : Data) (names : RecordNames) : Type 0 where
  pub rest : HasRest left
  pub devices : lists (ids_at (codes "ReportingDevice") left) names.devices ≡ true
  pub units : lists (ids_of frame.units) names.units ≡ true
  pub parties : lists (ids_of frame.parties) names.parties ≡ true
