use Rattle.std.proofs.Common.{arith}
use Rattle.cvr_fact_types.specs.Columns.{VotesFor}
use Rattle.cvr_facts.proofs.sums.add_selection.Goals as goal

pub overflow_add-votes : goal.overflow_add-votes
overflow_add-votes c =
    let below = c.requires.room (VotesFor c.in-Some.place) in omega (arith, below, c.requires.few.0)
