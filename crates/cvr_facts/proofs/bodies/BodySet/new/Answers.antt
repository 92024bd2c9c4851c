use Rattle.std.proofs.Common.{ap, ◌∙◌}
use Rattle.std.specs.FinSet as set
use Rattle.cvr_fact_types.specs.Facts.{text_cmp}
use Rattle.cvr_facts.proofs.bodies.BodySet.new.Goals as goal

pub returns : goal.returns
returns c = c.put_in_order.ensures.members ∙ ap (set.from_list {R = text_cmp}) c.in_ok-items.ensures
