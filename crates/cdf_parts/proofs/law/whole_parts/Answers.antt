use Rattle.cdf_parts.proofs.Whole.{whole_get, whole_array, whole_there}
use Rattle.cdf_parts.proofs.law.whole_parts.Goals as goal

pub returns : goal.returns
returns c = record {
  members = whole_get;
  items = whole_array;
  values = whole_there;
}
