use Rattle.std.proofs.Common.{◌≡◌, take, map}
use Rattle.cvr_lists.specs.Groups.{ids}
use Rattle.cvr_lists.proofs.record_lists.ids_in.Given as goal

abbrev pub invariant-loop-fact : goal.invariant-loop-fact
invariant-loop-fact l = map (λ i. i.now) l.ids.items ≡ ids (take l.fact-index l.run)
