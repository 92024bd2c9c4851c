use Rattle.cdf_parts.proofs.Removing.{gone, others_stay, without_absent}
use Rattle.cdf_parts.proofs.text_law.take_out.Goals as goal

pub returns-clause-gone : goal.returns-clause-gone
returns-clause-gone c = gone

pub returns-clause-others : goal.returns-clause-others
returns-clause-others c = others_stay

pub returns-clause-absent : goal.returns-clause-absent
returns-clause-absent c = without_absent
