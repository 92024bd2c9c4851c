use Rattle.cdf_check.proofs.Apart.{records_law, agrees_apart, typed_apart}
use Rattle.cdf_check.proofs.law.records_apart.Goals as goal

pub returns : goal.returns
returns c = record {
  report = records_law;
  agrees = agrees_apart;
  typed = typed_apart;
}
