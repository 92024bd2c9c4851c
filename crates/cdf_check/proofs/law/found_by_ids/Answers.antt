use Rattle.cdf_check.proofs.Listing.{found_by_ids}
use Rattle.cdf_check.proofs.law.found_by_ids.Goals as goal

pub returns : goal.returns
returns c = found_by_ids
