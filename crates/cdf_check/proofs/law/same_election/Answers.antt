use Rattle.cdf_check.proofs.SameElection.{contests_agree}
use Rattle.cdf_check.proofs.law.same_election.Goals as goal

pub returns : goal.returns
returns c = contests_agree
