use Rattle.cvr_facts.proofs.Moments.{moment, no_moment}
use Rattle.cvr_facts.proofs.law.moments.Goals as goal

pub returns : goal.returns
returns c = record { moment = moment; none = no_moment }
