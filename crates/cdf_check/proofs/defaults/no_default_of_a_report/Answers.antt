use Rattle.cdf_check.proofs.NoDefault.{report_read}
use Rattle.cdf_check.proofs.defaults.no_default_of_a_report.Goals as goal

pub returns : goal.returns
returns c = report_read
