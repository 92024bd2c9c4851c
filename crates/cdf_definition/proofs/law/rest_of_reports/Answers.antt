use Rattle.cdf_definition.proofs.Resting.{rest_law, rest_of_report}
use Rattle.cdf_definition.proofs.law.rest_of_reports.Goals as goal

pub returns-clause-has_rest : goal.returns-clause-has_rest
returns-clause-has_rest c = rest_of_report

pub returns-clause-is_report : goal.returns-clause-is_report
returns-clause-is_report c = rest_law
