use Rattle.cdf_form.specs.declared.table.Key.TheVariants as key
use Rattle.cdf_form.proofs.FormLaw.{fits_of, no_faults}
use Rattle.cdf_form.proofs.law.form_law.Goals as goal

pub returns : goal.returns
returns c = λ k d keyed. (fits_of d k key.Free keyed, no_faults)
