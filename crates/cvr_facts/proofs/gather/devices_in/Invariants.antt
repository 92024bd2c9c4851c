use Rattle.std.proofs.Common.{◌≡◌, take, map}
use Rattle.cvr_facts.specs.Lists.{stated_device}
use Rattle.cvr_facts.proofs.gather.devices_in.Given as goal

abbrev pub invariant-loop-device : goal.invariant-loop-device
invariant-loop-device l = l.facts.items ≡ map stated_device (take l.device-index l.devices)
