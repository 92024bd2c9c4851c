use Rattle.cdf_check.proofs.Standing.{devices_stand}
use Rattle.cdf_check.proofs.bodies.device_bodies_stand.Goals as goal

pub returns : goal.returns
returns c = devices_stand
