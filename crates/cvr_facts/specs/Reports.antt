-- The facts of a file: of each ReportingDevice its text, of each CVR the text of what is left
-- without its snapshots, and of each of its CVRSnapshots the text. (NIST SP 1500-103, classes
-- CastVoteRecordReport, ReportingDevice, CVR, CVRSnapshot.)
use Rattle.std.specs.Prelude.{ℕ, List, ◌∷◌, ◌++◌, map, codes}
use Rattle.std.specs.List.{flat_map}
use Rattle.std.specs.FinSet as set
use Rattle.serde_json.specs.Data.{Data}
use Rattle.serde_json.specs.Written.{compact_text}
use Rattle.cdf_parts.specs.Parts.{array_at, text_at, id_of}
use Rattle.cdf_typed.specs.Typed.{header_of}
use Rattle.cdf_definition.specs.Acceptance.{value_in}
use Rattle.cvr_fact_types.specs.Facts.{Fact, Device, Header, Snapshot, Facts}

-- the fact of a ReportingDevice: its id and its compact text
abbrev pub device_fact : Data → Fact
device_fact device = Device (id_of device) (compact_text device)

-- a cast vote record without CVRSnapshot and CurrentSnapshotId
abbrev pub header_fact : Data → Fact
header_fact cvr = Header (text_at (codes "CreatingDeviceId") cvr) (text_at (codes "UniqueId") cvr)
    (compact_text (header_of cvr))

-- the fact of a CVRSnapshot of a CVR: the name of the record, its own id, and its compact text
abbrev pub snapshot_fact : Data → Data → Fact
snapshot_fact cvr snapshot = Snapshot (text_at (codes "CreatingDeviceId") cvr)
    (text_at (codes "UniqueId") cvr) (id_of snapshot) (compact_text snapshot)

-- the facts of a CVR: its header, and each of its snapshots
abbrev pub cvr_facts : Data → List Fact
cvr_facts cvr = header_fact cvr ∷ map (snapshot_fact cvr) (array_at (codes "CVRSnapshot") cvr)

-- the facts of a report: of each ReportingDevice, and of each CVR
abbrev pub report_facts : Data → List Fact
report_facts report = map device_fact (array_at (codes "ReportingDevice") report)
    ++ flat_map cvr_facts (array_at (codes "CVR") report)

-- the facts of a file, whatever the definition
abbrev pub facts : List ℕ → Facts
facts bytes = set.from_list (report_facts (value_in bytes))
