use Rattle.cdf_definition.proofs.Laws.{references}
use Rattle.cdf_check.proofs.SameElection.{contests_agree}
use Rattle.cdf_check.proofs.Standing.{snapshots_stand}
use Rattle.cdf_check.proofs.bodies.snapshot_bodies_stand.Goals as goal

pub returns : goal.returns
returns c = snapshots_stand references contests_agree
