-- A written volume: the compact text of a report made of a page. (NIST SP 1500-103, classes
-- CastVoteRecordReport and CVR; which members it has is this project's own.)
use Rattle.std.specs.Prelude.{ℕ, List, map, codes, option_and_then, unwrap_or}
use Rattle.serde_json.specs.Data.{Data, object, array, string, Items, no_items, item, Members}
use Rattle.serde_json.specs.Data.{no_members, member}
use Rattle.serde_json.specs.Find.{as_object}
use Rattle.serde_json.specs.Read.{read}
use Rattle.serde_json.specs.View.{items_of}
use Rattle.serde_json.specs.Written.{compact_text}
use Rattle.cdf_definition.specs.Frame.{Frame}
use Rattle.cdf_definition.specs.Named.{texts_of}
use Rattle.cvr_fact_types.specs.Facts.{Facts}
use Rattle.cvr_facts.specs.Choosing.{data_of}
use Rattle.cvr_report.specs.Record.{cvr_object}
use Rattle.cvr_report.specs.Head.{Head}
use Rattle.cvr_report.specs.Page.{RecordPage, Page, page}

-- a member, left out where its list is empty
abbrev pub unless_empty : List ℕ → Items → Members → Members
unless_empty name no_items ms = ms
unless_empty name (item d ds) ms = member name (array (item d ds)) ms

-- what a volume has beside its records
pub record Cover : Type 0 where
  pub elections : Items
  pub date : List ℕ
  pub units : Items
  pub parties : Items
  pub device : List ℕ
  pub devices : Items

-- the report of these records
abbrev pub volume_of : Cover → Items → Data
volume_of c records =
    object (
    member (codes "@type") (string (codes "CVR.CastVoteRecordReport"))
    (unless_empty (codes "CVR") records
    (member (codes "Election") (array c.elections)
    (member (codes "GeneratedDate") (string c.date)
    (member (codes "GpUnit") (array c.units)
    (unless_empty (codes "Party") c.parties
    (member (codes "ReportGeneratingDeviceIds") (array (item (string c.device) no_items))
    (member (codes "ReportType") (array (item (string (codes "aggregated")) no_items))
    (member (codes "ReportingDevice") (array c.devices)
    (member (codes "Version") (string (codes "1.0.0")) no_members))))))))))

-- the members of the object that a body spells
abbrev pub members_in : List ℕ → Members
members_in body = unwrap_or (option_and_then as_object (read body)) no_members

-- the values that bodies spell
abbrev pub values_of : List (List ℕ) → Items
values_of bodies = items_of (map data_of bodies)

-- the header with its snapshots and the id of the current one
abbrev pub record_data : RecordPage → Data
record_data p =
    cvr_object (members_in p.header) (values_of (map (λ s. s.body) p.snapshots)) p.current

-- the objects of the records of a page
abbrev pub records_data : Page → Items
records_data p = items_of (map record_data p.records)

-- what a volume has beside its records, of a definition, a date, a device and a page
abbrev pub cover_of : Frame → List ℕ → List ℕ → Page → Cover
cover_of frame date device p = record {
  elections = values_of (texts_of frame.elections);
  date = date;
  units = values_of (texts_of frame.units);
  parties = values_of (texts_of frame.parties);
  device = device;
  devices = values_of (map (λ s. s.body) p.devices);
}

-- the report of a page under a definition, a date and a device, as docs/FORMAT.md has it
abbrev pub volume_data : Frame → List ℕ → List ℕ → Page → Data
volume_data frame date device p = volume_of (cover_of frame date device p) (records_data p)

-- volume i of these facts, under a definition and a heading: the compact text of that report, and
-- nothing after it
abbrev pub volume : Frame → Head → Facts → ℕ → List ℕ
volume frame head facts i = compact_text (volume_data frame head.date head.device (page facts i))
