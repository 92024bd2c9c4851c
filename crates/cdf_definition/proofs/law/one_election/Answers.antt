use Rattle.cdf_definition.proofs.Reports.{one_election}
use Rattle.cdf_definition.proofs.law.one_election.Goals as goal

pub returns : goal.returns
returns c = one_election
