use Rattle.cvr_report.proofs.SameVolumes.{same_files_law}
use Rattle.cvr_report.proofs.law.same_files.Goals as goal

pub returns : goal.returns
returns g c = record { alike = same_files_law g.O.Office.held g.O.Office.defined }
