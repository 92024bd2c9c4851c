use Rattle.cdf_check.proofs.Listing.{lists}
use Rattle.cdf_check.proofs.law.lists_rise.Goals as goal

pub returns : goal.returns
returns c = lists
