use Rattle.cdf_definition.proofs.Depths.{was_read, report_proper, listed_proper}
use Rattle.cdf_definition.proofs.law.bodies_are_shallow.Goals as goal

pub returns : goal.returns
returns c = record {
  value = was_read;
  report = report_proper;
  listed = listed_proper;
}
