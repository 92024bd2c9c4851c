use Rattle.std.proofs.Common.{rules}
use Rattle.cvr_facts.proofs.value.header_in.Goals as goal

pub returns : goal.returns
returns c = λ contests. rw (c.in_ok-name_in.ensures contests) (search rules)
