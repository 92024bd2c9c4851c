use Rattle.cvr_run.proofs.SameOffices.{least_same_is}
use Rattle.cvr_run.proofs.law.the_least_office_that_is_the_same_is_answered.Goals as goal

pub returns : goal.returns
returns c = least_same_is
