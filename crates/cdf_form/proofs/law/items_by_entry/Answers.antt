use Rattle.cdf_form.proofs.FormParts.{is_an_array, items_have_form, items_are_few, items_are_some}
use Rattle.cdf_form.proofs.FormParts.{items_are_apart}
use Rattle.cdf_form.proofs.law.items_by_entry.Goals as goal

pub returns : goal.returns
returns c = record {
  is_array = λ b n l least most k d entry. is_an_array entry;
  have_form = λ b n l least most k d entry. items_have_form entry;
  most = λ b n l least most k d entry. items_are_few entry;
  least = λ n l least most k d entry. items_are_some entry;
  apart = λ b n l least most k d entry. items_are_apart entry;
}
