use Rattle.std.proofs.Common.{◌≡◌, take}
use Rattle.cvr_facts.proofs.bodies.copies.Given as goal

abbrev pub invariant-loop-body : goal.invariant-loop-body
invariant-loop-body l = l.items.items ≡ take l.body-index l.bodies
