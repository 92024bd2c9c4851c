use Rattle.cdf_parts.proofs.Lists.{array_proper, list_of-items_of}
use Rattle.cdf_parts.proofs.text_law.array_is_proper.Goals as goal

pub returns-clause-proper : goal.returns-clause-proper
returns-clause-proper c = array_proper

pub returns-clause-items : goal.returns-clause-items
returns-clause-items c = list_of-items_of
