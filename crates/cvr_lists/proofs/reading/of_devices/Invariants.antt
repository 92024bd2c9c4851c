use Rattle.std.proofs.Common.{◌≡◌, map}
use Rattle.cvr_lists.specs.Kept.{device_stated}
use Rattle.cvr_lists.proofs.reading.of_devices.Given as goal

abbrev pub invariant-loop-device : goal.invariant-loop-device
invariant-loop-device l = l.facts.items ≡ map device_stated l.yielded
