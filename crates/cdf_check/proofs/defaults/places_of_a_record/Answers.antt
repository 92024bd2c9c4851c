use Rattle.cdf_check.proofs.Ranges.{record_in_range}
use Rattle.cdf_check.proofs.defaults.places_of_a_record.Goals as goal

pub returns : goal.returns
returns c = record_in_range
