use Rattle.cdf_form.proofs.FormLaw.{in_order}
use Rattle.cdf_form.proofs.law.tables_in_order.Goals as goal

pub returns : goal.returns
returns c = in_order
