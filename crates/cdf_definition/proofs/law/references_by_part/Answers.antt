use Rattle.cdf_definition.proofs.Resolving.{cvr_law, snapshot_law}
use Rattle.cdf_definition.proofs.law.references_by_part.Goals as goal

pub returns : goal.returns
returns c = record { records = cvr_law; snapshots = snapshot_law }
