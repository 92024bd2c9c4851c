use Rattle.std.proofs.Common.{ap, arith}
use Rattle.std.specs.FinSet as set
use Rattle.cvr_facts.specs.Unions.{text_total}
use Rattle.cvr_facts.proofs.Sorted.{len-from_list}
use Rattle.cvr_facts.proofs.bodies.BodySet.len.Goals as goal

pub returns : goal.returns
returns c = omega (
  arith,
  len-from_list text_total c.self.inside.items.items c.self.invariant,
  ap
      set.len c.self.view_is,
)
