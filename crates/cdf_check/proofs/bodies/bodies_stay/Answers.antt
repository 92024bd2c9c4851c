use Rattle.cdf_check.proofs.Standing.{more_devices, header_stays, snapshot_stays}
use Rattle.cdf_check.proofs.bodies.bodies_stay.Goals as goal

pub returns : goal.returns
returns c = record {
  devices = more_devices;
  header = header_stays;
  snapshot = snapshot_stays;
}
