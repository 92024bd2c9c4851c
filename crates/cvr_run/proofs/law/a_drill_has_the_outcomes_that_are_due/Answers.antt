use Rattle.cvr_run.proofs.DueOutcomes.{due_outcomes}
use Rattle.cvr_run.proofs.law.a_drill_has_the_outcomes_that_are_due.Goals as goal

pub returns : goal.returns
returns c = due_outcomes
