use Rattle.std.proofs.Common.{◌≡◌, take}
use Rattle.std.specs.List.{flat_map}
use Rattle.cvr_facts.specs.Lists.{stated_snapshots}
use Rattle.cvr_facts.proofs.gather.snapshots_in.Given as goal

abbrev pub invariant-loop-cvr : goal.invariant-loop-cvr
invariant-loop-cvr l =
    l.facts.items ≡ flat_map (stated_snapshots l.definition.contests) (take l.cvr-index l.cvrs)
