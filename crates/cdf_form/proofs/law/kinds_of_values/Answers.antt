use Rattle.cdf_form.proofs.FormParts.{moment_is_read, listed_is_among, count_form}
use Rattle.cdf_form.proofs.law.kinds_of_values.Goals as goal

pub returns : goal.returns
returns c = record {
  moments = moment_is_read;
  listed = listed_is_among;
  counts = λ d f. count_form f;
}
