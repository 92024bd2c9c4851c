use Rattle.cvr_exchange.proofs.ByFiles.{by_files}
use Rattle.cvr_exchange.proofs.law.by_files.Goals as goal

pub returns : goal.returns
returns c = record { content = by_files }
