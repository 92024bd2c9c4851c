-- Where in a file a fact comes from, and which facts the bodies of a record are. (This project's
-- own.)
use Rattle.std.specs.Prelude.{◌≡◌, ◌↔◌, ℕ, List, true, codes}
use Rattle.std.specs.List.{Contains}
use Rattle.std.specs.Cmp.{IsTotalOrder}
use Rattle.std.specs.FinMap.{IsAntisymmetric}
use Rattle.std.specs.FinSet.{contains, items}
use Rattle.serde_json.specs.Data.{Data}
use Rattle.cdf_types.specs.declared.report.Report.{Report}
use Rattle.cdf_parts.specs.Parts.{array_at}
use Rattle.cdf_definition.specs.Acceptance.{value_in}
use Rattle.cdf_definition.specs.Frame.{Frame}
use Rattle.cvr_fact_types.specs.declared.name.RecordName.{RecordName}
use Rattle.cvr_fact_types.specs.Facts.{Fact, Header, Snapshot, Facts, text_cmp}
use Rattle.cvr_facts.specs.Reports.{device_fact, header_fact, snapshot_fact, report_facts, facts}
use Rattle.cvr_facts.specs.Choosing.{choice_cmp, header_bodies, snapshot_bodies}
use Rattle.cvr_facts.specs.Lists.{stated_list, IsReportOf}
use Rattle.cvr_facts.specs.Stands.{ListIsSpelled}

-- ---- facts of a file

-- the ReportingDevices and the CVRs of a report, and the CVRSnapshots of a CVR
abbrev pub devices_in : Data → List Data
devices_in d = array_at (codes "ReportingDevice") d

abbrev pub cvrs_in : Data → List Data
cvrs_in d = array_at (codes "CVR") d

abbrev pub snapshots_in : Data → List Data
snapshots_in c = array_at (codes "CVRSnapshot") c

-- a device of the report, one of its records, or a snapshot of one
pub data Source (d : Data) : Fact → Type 0 where
  of_device : (e : Data) → Contains (devices_in d) e → Source d (device_fact e)
  of_header : (c : Data) → Contains (cvrs_in d) c → Source d (header_fact c)
  of_snapshot : (c s : Data) → Contains (cvrs_in d) c → Contains (snapshots_in c) s
      → Source d (snapshot_fact c s)

-- each fact of a file comes from one of these
abbrev pub FactSourceLaw : Type 0
FactSourceLaw = (bytes : List ℕ) (f : Fact) → contains (facts bytes) f ≡ true
    → Source (value_in bytes) f

-- and each of these gives one
abbrev pub DeviceListedLaw : Type 0
DeviceListedLaw = (d e : Data) → Contains (devices_in d) e
    → Contains (report_facts d) (device_fact e)

abbrev pub HeaderListedLaw : Type 0
HeaderListedLaw = (d c : Data) → Contains (cvrs_in d) c → Contains (report_facts d) (header_fact c)

abbrev pub SnapshotListedLaw : Type 0
SnapshotListedLaw = (d c s : Data) → Contains (cvrs_in d) c → Contains (snapshots_in c) s
    → Contains (report_facts d) (snapshot_fact c s)

abbrev pub FactHeldLaw : Type 0
FactHeldLaw = (bytes : List ℕ) (f : Fact) → Contains (report_facts (value_in bytes)) f
    → contains (facts bytes) f ≡ true

-- what the report of an accepted file says of them is what their bodies spell
abbrev pub SpelledLaw : Type 0
SpelledLaw = (frame : Frame) (bytes : List ℕ) (report : Report) → IsReportOf frame bytes report
    → ListIsSpelled frame.contests (stated_list frame.contests report)

-- ---- bodies of a record

-- a set of facts has those of its list
abbrev pub SetItemsLaw : Type 0
SetItemsLaw = (s : Facts) (f : Fact) → (contains s f ≡ true) ↔ Contains (items s) f

-- a record's header bodies are those of its facts of a header
abbrev pub HeaderBodiesLaw : Type 0
HeaderBodiesLaw = (s : Facts) (key : RecordName) (b : List ℕ)
    → Contains (header_bodies s key) b ↔ (contains s (Header key.device key.unique b) ≡ true)

-- and its snapshots' bodies those of its facts of a snapshot
abbrev pub SnapshotBodiesLaw : Type 0
SnapshotBodiesLaw = (s : Facts) (key : RecordName) (b : List ℕ)
    → Contains (snapshot_bodies s key) b
    ↔ ((id : List ℕ) × (contains s (Snapshot key.device key.unique id b) ≡ true))

-- ---- orders of texts and of bodies

-- texts, and bodies in the order of choosing, are in a total order in which only equal ones tie
abbrev pub TextsInOrder : Type 0
TextsInOrder = IsTotalOrder text_cmp

abbrev pub TextsAreExact : Type 0
TextsAreExact = IsAntisymmetric text_cmp

abbrev pub BodiesInOrder : Type 0
BodiesInOrder = IsTotalOrder choice_cmp

abbrev pub BodiesAreExact : Type 0
BodiesAreExact = IsAntisymmetric choice_cmp
