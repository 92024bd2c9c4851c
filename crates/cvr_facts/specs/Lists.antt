-- The facts of a typed report as lists. (This project's own.)
use Rattle.std.specs.Prelude.{◌≡◌, ℕ, List, ◌++◌, map, None}
use Rattle.std.specs.List.{flat_map, Contains}
use Rattle.std.specs.List.Sorted.{IsStrictlySortedBy}
use Rattle.cdf_types.specs.declared.report.Cvr.{Cvr}
use Rattle.cdf_types.specs.declared.report.Snapshot.{Snapshot as ReportSnapshot}
use Rattle.cdf_types.specs.declared.report.ReportingDevice.{ReportingDevice}
use Rattle.cdf_types.specs.declared.report.Report.{Report}
use Rattle.cdf_parts.specs.Places.{Contest}
use Rattle.cdf_definition.specs.Frame.{Frame}
use Rattle.cdf_definition.specs.Acceptance.{first_refusal, report_in}
use Rattle.cvr_fact_types.specs.declared.name.RecordName.{RecordName}
use Rattle.cvr_fact_types.specs.declared.device.DeviceFact.{DeviceFact}
use Rattle.cvr_fact_types.specs.declared.header.HeaderFact.{HeaderFact}
use Rattle.cvr_fact_types.specs.declared.snapshot.SnapshotFact.{SnapshotFact}
use Rattle.cvr_facts.specs.declared.list.FactList.{FactList}
use Rattle.cvr_fact_types.specs.Facts.{Fact, Device, Header, Snapshot}
use Rattle.cvr_fact_types.specs.Orders.{device_cmp, header_cmp, snapshot_cmp}
use Rattle.cvr_facts.specs.Sums.{sums_in}

-- ---- what a report says

abbrev pub record_name : Cvr → RecordName
record_name cvr = record { device = cvr.device; unique = cvr.unique }

-- the device, the header and the snapshot of a typed report, as facts with their fields
abbrev pub stated_device : ReportingDevice → DeviceFact
stated_device device = record { id = device.id; body = device.body }

abbrev pub stated_header : Cvr → HeaderFact
stated_header cvr =
    record { key = record_name cvr; unit = cvr.unit; batch = cvr.batch; body = cvr.body }

-- a snapshot of the record with this name
abbrev pub stated_under : List Contest → RecordName → ReportSnapshot → SnapshotFact
stated_under contests key snapshot = record {
  key = key;
  id = snapshot.id;
  kind = snapshot.kind;
  moment = snapshot.moment;
  votes = sums_in contests snapshot.contests;
  body = snapshot.body;
}

abbrev pub stated_snapshot : List Contest → Cvr → ReportSnapshot → SnapshotFact
stated_snapshot contests cvr snapshot = stated_under contests (record_name cvr) snapshot

abbrev pub stated_snapshots : List Contest → Cvr → List SnapshotFact
stated_snapshots contests cvr = map (stated_snapshot contests cvr) cvr.snapshots

-- the devices, headers and snapshots of a typed report
abbrev pub stated_list : List Contest → Report → FactList
stated_list contests report = record {
  devices = map stated_device report.devices;
  headers = map stated_header report.cvrs;
  snapshots = flat_map (stated_snapshots contests) report.cvrs;
}

-- ---- the facts that they are

abbrev pub fact_of_device : DeviceFact → Fact
fact_of_device d = Device d.id d.body

abbrev pub fact_of_header : HeaderFact → Fact
fact_of_header h = Header h.key.device h.key.unique h.body

abbrev pub fact_of_snapshot : SnapshotFact → Fact
fact_of_snapshot s = Snapshot s.key.device s.key.unique s.id s.body

-- the facts that lists of devices, headers and snapshots stand for
abbrev pub facts_in : FactList → List Fact
facts_in list = map fact_of_device list.devices
    ++ (map fact_of_header list.headers ++ map fact_of_snapshot list.snapshots)

-- ---- lists in order

-- each fact stands once, in order
pub record ListsRise (list : FactList) : Type 0 where
  pub devices : IsStrictlySortedBy device_cmp list.devices
  pub headers : IsStrictlySortedBy header_cmp list.headers
  pub snapshots : IsStrictlySortedBy snapshot_cmp list.snapshots

-- each is what the report says
pub record AreFactsOf (contests : List Contest) (report : Report) (list : FactList) : Type 0 where
  pub devices : (d : DeviceFact) → Contains list.devices d
      → Contains (stated_list contests report).devices d
  pub headers : (h : HeaderFact) → Contains list.headers h
      → Contains (stated_list contests report).headers h
  pub snapshots : (s : SnapshotFact) → Contains list.snapshots s
      → Contains (stated_list contests report).snapshots s

-- ---- files

-- the report of a file that is accepted beside a definition
pub record IsReportOf (frame : Frame) (bytes : List ℕ) (report : Report) : Type 0 where
  pub accepted : first_refusal frame bytes ≡ None
  pub report_is : report ≡ report_in frame.contests bytes
