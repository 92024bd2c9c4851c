use Rattle.std.proofs.Common.{◌≡◌, take, map}
use Rattle.cdf_node.specs.View.{view}
use Rattle.cdf_typed.specs.Typed.{device_of}
use Rattle.cdf_typed.proofs.records.read_devices.Given as goal

abbrev pub invariant-loop-value : goal.invariant-loop-value
invariant-loop-value l = l.devices.items ≡ map device_of (map view (take l.value-index l.values))
