use Rattle.cdf_form.proofs.Whole.{whole_of, no_float_faults, whole_document}
use Rattle.cdf_form.proofs.law.whole_law.Goals as goal

pub returns : goal.returns
returns c = record {
  all = whole_of;
  none = no_float_faults;
  document = whole_document;
}
