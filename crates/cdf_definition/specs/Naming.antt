-- What a record names that is known before the rest of its report is read. (This project's own.)
use Rattle.std.specs.Prelude.{◌≡◌, [], codes}
use Rattle.serde_json.specs.Data.{Data}
use Rattle.cdf_parts.specs.Parts.{ids_at}
use Rattle.cdf_definition.specs.Paths.{each}
use Rattle.cdf_definition.specs.References.{one, in_snapshot}
use Rattle.cdf_definition.specs.Scoped.{contests_alone}
use Rattle.cdf_definition.specs.Named.{ids_of}
use Rattle.cdf_definition.specs.Frame.{Frame}

-- a record's contests, selections and election are the definition's, and its current snapshot is
-- its own
pub record NamesOwn (frame : Frame) (cvr : Data) : Type 0 where
  pub snapshots : each (in_snapshot (contests_alone frame.contests)) (codes "CVRSnapshot") cvr ≡ []
  pub current : one (ids_at (codes "CVRSnapshot") cvr) (codes "CurrentSnapshotId") cvr ≡ []
  pub election : one (ids_of frame.elections) (codes "ElectionId") cvr ≡ []
