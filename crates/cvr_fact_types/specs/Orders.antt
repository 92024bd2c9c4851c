-- The orders of facts as values. (This project's own.)
use Rattle.std.specs.declared.cmp.Ordering.{Ordering}
use Rattle.std.specs.Ordering.{ordering_then}
use Rattle.std.specs.Cmp.{IsTotalOrder}
use Rattle.std.specs.Cmp.Rules.{comparing}
use Rattle.std.proofs.Common.{rules}
use Rattle.cvr_fact_types.specs.declared.device.DeviceFact.{DeviceFact}
use Rattle.cvr_fact_types.specs.declared.header.HeaderFact.{HeaderFact}
use Rattle.cvr_fact_types.specs.declared.snapshot.SnapshotFact.{SnapshotFact}
use Rattle.cvr_fact_types.specs.Facts.{text_cmp, name_cmp}

-- by id, then by body
abbrev pub device_cmp : DeviceFact → DeviceFact → Ordering
device_cmp a b = ordering_then (text_cmp a.id b.id) (text_cmp a.body b.body)

-- by record, then by body
abbrev pub header_cmp : HeaderFact → HeaderFact → Ordering
header_cmp a b = ordering_then (name_cmp a.key b.key) (text_cmp a.body b.body)

pub header_total : IsTotalOrder header_cmp
header_total = search (comparing, rules) depth 9

-- by record, then by id, then by body
abbrev pub snapshot_cmp : SnapshotFact → SnapshotFact → Ordering
snapshot_cmp a b = ordering_then (name_cmp a.key b.key)
    (ordering_then (text_cmp a.id b.id) (text_cmp a.body b.body))

pub snapshot_total : IsTotalOrder snapshot_cmp
snapshot_total = search (comparing, rules) depth 9
