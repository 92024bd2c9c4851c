use Rattle.cdf_form.proofs.FormParts.{has_class, only_class, is_object, entry_named}
use Rattle.cdf_form.proofs.law.entries_hold.Goals as goal

pub returns : goal.returns
returns c = record {
  its_class = λ g d f. has_class f;
  only_class = only_class;
  is_object = is_object;
  each_entry = entry_named;
}
