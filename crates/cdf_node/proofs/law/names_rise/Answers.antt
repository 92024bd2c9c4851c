use Rattle.cdf_node.proofs.Sorting.{sorted_next, sorted_read}
use Rattle.cdf_node.proofs.law.names_rise.Goals as goal

pub returns-clause-next : goal.returns-clause-next
returns-clause-next c = sorted_next

pub returns-clause-read : goal.returns-clause-read
returns-clause-read c = sorted_read
