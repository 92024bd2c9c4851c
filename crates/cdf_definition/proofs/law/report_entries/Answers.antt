use Rattle.cdf_definition.proofs.Reports.{report_entry, has_id}
use Rattle.cdf_definition.proofs.law.report_entries.Goals as goal

pub returns : goal.returns
returns c = record { each_entry = report_entry; id = has_id }
