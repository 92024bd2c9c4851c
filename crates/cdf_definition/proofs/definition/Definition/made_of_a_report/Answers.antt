use Rattle.cdf_definition.proofs.OneElection.{is_frame}
use Rattle.cdf_definition.proofs.definition.Definition.made_of_a_report.Goals as goal

pub returns : goal.returns
returns c = rw (← c.self.view_is) (is_frame _ _ c.self.invariant)
