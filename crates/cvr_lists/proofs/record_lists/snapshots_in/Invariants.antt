use Rattle.std.proofs.Common.{◌≡◌, take, map}
use Rattle.cvr_office.specs.Runs.{snapshots}
use Rattle.cvr_lists.proofs.record_lists.snapshots_in.Given as goal

abbrev pub invariant-loop-fact : goal.invariant-loop-fact
invariant-loop-fact l = map (λ s. s.now) l.snapshots.items ≡ snapshots (take l.fact-index l.facts)
