-- What is kept of a definition: the texts of its objects by their ids, and its contests and
-- selections by place. (NIST SP 1500-103, classes Election, GpUnit, Party, ReportingDevice; that
-- they make a definition is this project's own.)
use Rattle.std.specs.Prelude.{◌≡◌, ℕ, List, map, codes}
use Rattle.serde_json.specs.Data.{Data}
use Rattle.cdf_parts.specs.Parts.{array_at, the_election}
use Rattle.cdf_parts.specs.Places.{Texts, Contest, contest_of}
use Rattle.cdf_definition.specs.Named.{IdText, id_and_text, by_id, ids_of, texts_of}
use Rattle.cdf_definition.specs.References.{Scope}

-- what is kept of a definition: the ids and compact texts of its objects, by id; and its contests
-- with their selections, by place
pub record Frame : Type 0 where
  pub elections : List IdText
  pub units : List IdText
  pub parties : List IdText
  pub devices : List IdText
  pub contests : List Contest

-- the objects in the array under a name, in byte order of their ids
abbrev pub entries_at : List ℕ → Data → List IdText
entries_at name d = by_id (map id_and_text (array_at name d))

-- what is kept of a report that serves as a definition
abbrev pub frame_of : Data → Frame
frame_of d = record {
  elections = entries_at (codes "Election") d;
  units = entries_at (codes "GpUnit") d;
  parties = entries_at (codes "Party") d;
  devices = entries_at (codes "ReportingDevice") d;
  contests = map contest_of (array_at (codes "Contest") (the_election d));
}

-- The same definition: the same texts of the Election, of GpUnits and of Parties. Devices take no
-- part.
pub record IsSame (f g : Frame) : Type 0 where
  pub elections : texts_of f.elections ≡ texts_of g.elections
  pub units : texts_of f.units ≡ texts_of g.units
  pub parties : texts_of f.parties ≡ texts_of g.parties

-- what can be named by a definition's objects and these devices
abbrev pub scope_in : Frame → Texts → Scope
scope_in frame devices = record {
  elections = ids_of frame.elections;
  units = ids_of frame.units;
  parties = ids_of frame.parties;
  devices = devices;
  contests = frame.contests;
}
