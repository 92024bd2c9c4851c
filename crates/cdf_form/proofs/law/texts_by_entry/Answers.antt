use Rattle.cdf_form.proofs.FormParts.{text_has_form, may_be_text, must_be_text, must_text_in}
use Rattle.cdf_form.proofs.FormParts.{must_have_form}
use Rattle.cdf_form.proofs.law.texts_by_entry.Goals as goal

pub returns : goal.returns
returns c = record {
  has_form = λ b n l d entry. text_has_form entry;
  is_text = λ b n l d entry. may_be_text entry;
  is_there = λ n l d entry. must_be_text entry;
  is_found = λ n l d entry. must_text_in entry;
  found_has_form = λ n l d entry. must_have_form entry;
}
