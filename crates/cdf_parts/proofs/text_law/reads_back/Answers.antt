use Rattle.cdf_parts.proofs.ReadsBack.{read-proper}
use Rattle.cdf_parts.proofs.WasRead.{read_again}
use Rattle.cdf_parts.proofs.text_law.reads_back.Goals as goal

pub returns-clause-proper : goal.returns-clause-proper
returns-clause-proper c = read-proper

pub returns-clause-again : goal.returns-clause-again
returns-clause-again c = read_again
