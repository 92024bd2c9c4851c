use Rattle.cdf_check.proofs.SameElection.{contests_agree}
use Rattle.cdf_check.proofs.Ranges.{in_range}
use Rattle.cdf_check.proofs.defaults.places_are_in_range.Goals as goal

pub returns : goal.returns
returns c = in_range contests_agree
