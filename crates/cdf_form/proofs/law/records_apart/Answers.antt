use Rattle.cdf_form.proofs.Records.{records_apart}
use Rattle.cdf_form.proofs.law.records_apart.Goals as goal

pub returns : goal.returns
returns c = records_apart
