use Rattle.cdf_form.proofs.Records.{records_first}
use Rattle.cdf_form.proofs.law.records_first.Goals as goal

pub returns : goal.returns
returns c = records_first
