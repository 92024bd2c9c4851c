use Rattle.serde_json.proofs.Nesting.{depth-read}
use Rattle.cdf_parts.proofs.WasRead.{well_read, proper_read}
use Rattle.cdf_parts.proofs.text_law.was_read.Goals as goal

pub returns-clause-well : goal.returns-clause-well
returns-clause-well c = well_read

pub returns-clause-shallow : goal.returns-clause-shallow
returns-clause-shallow c = depth-read

pub returns-clause-proper : goal.returns-clause-proper
returns-clause-proper c = proper_read
