use Rattle.std.proofs.Common.{rules}
use Rattle.cdf_definition.proofs.check.check_own.Goals as goal

pub returns-in_err-check_references-clause-err : goal.returns-in_err-check_references-clause-err
returns-in_err-check_references-clause-err c = search rules
