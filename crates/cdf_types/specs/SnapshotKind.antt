-- The kinds of a snapshot (NIST SP 1500-103, enumeration CVRType).
use Rattle.std.specs.Prelude.{ℕ, List, codes}
use Rattle.cdf_types.specs.declared.snapshot_kind.SnapshotKind.{SnapshotKind}
use Rattle.cdf_types.specs.declared.snapshot_kind.SnapshotKind.TheVariants as snapshot_kind

-- the text of each CVRType
abbrev pub snapshot_kind_text : SnapshotKind → List ℕ
snapshot_kind_text snapshot_kind.Original = codes "original"
snapshot_kind_text snapshot_kind.Interpreted = codes "interpreted"
snapshot_kind_text snapshot_kind.Modified = codes "modified"

-- the rank of a kind in the order of choosing, which is this project's own: 0, 1 or 2
abbrev pub snapshot_kind_rank : SnapshotKind → ℕ
snapshot_kind_rank snapshot_kind.Original = 0
snapshot_kind_rank snapshot_kind.Interpreted = 1
snapshot_kind_rank snapshot_kind.Modified = 2
