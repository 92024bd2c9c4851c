use Rattle.cvr_exchange.proofs.ByFiles.{same_files_law}
use Rattle.cvr_exchange.proofs.law.same_files.Goals as goal

pub returns : goal.returns
returns g c = record { alike = same_files_law g.O.Office.held g.O.Office.defined }
