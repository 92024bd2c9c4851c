use Rattle.cdf_check.proofs.SameElection.{contests_agree}
use Rattle.cdf_check.proofs.NoDefault.{no_default}
use Rattle.cdf_check.proofs.defaults.no_default_occurs.Goals as goal

pub returns : goal.returns
returns c = no_default contests_agree
