-- The facts of a file, record by record. (This project's own.)
use Rattle.std.specs.Prelude.{◌≡◌, List, ◌∷◌, map, length}
use Rattle.std.specs.List.{flat_map}
use Rattle.cdf_node.specs.declared.node.Node.{Node}
use Rattle.cdf_node.specs.View.{view}
use Rattle.cdf_types.specs.declared.report.Cvr.{Cvr}
use Rattle.cdf_types.specs.declared.report.ReportingDevice.{ReportingDevice}
use Rattle.cdf_parts.specs.Places.{Contest}
use Rattle.cdf_typed.specs.Typed.{snapshot_of}
use Rattle.cvr_fact_types.specs.declared.name.RecordName.{RecordName}
use Rattle.cvr_facts.specs.Lists.{stated_device, stated_header, stated_snapshots, stated_under}
use Rattle.cvr_office.specs.declared.any_fact.AnyFact.{AnyFact}
use Rattle.cvr_office.specs.declared.any_fact.AnyFact.TheVariants as any
use Rattle.cvr_lists.specs.declared.kept.KeptFacts.{KeptFacts}

-- the fact of a device of a typed report
abbrev pub device_stated : ReportingDevice → AnyFact
device_stated device = any.Device (stated_device device)

-- the facts of a record of one: its header, then its snapshots
abbrev pub record_stated : List Contest → Cvr → List AnyFact
record_stated contests cvr =
    any.Header (stated_header cvr) ∷ map any.Snapshot (stated_snapshots contests cvr)

-- the fact of a snapshot of the record with this name
abbrev pub snapshot_stated : List Contest → RecordName → Node → AnyFact
snapshot_stated contests key node =
    any.Snapshot (stated_under contests key (snapshot_of contests (view node)))

-- the facts of these records, and how many the records are
pub record AreKept (contests : List Contest) (cvrs : List Cvr) (kept : KeptFacts) : Type 0 where
  pub facts : kept.facts.items ≡ flat_map (record_stated contests) cvrs
  pub count : kept.cvrs ≡ length cvrs
