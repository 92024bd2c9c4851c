use Rattle.cvr_office.proofs.Reached.{content-none}
use Rattle.cvr_office.proofs.SameFiles.{same_files, same_places}
use Rattle.cvr_office.proofs.law.same_starts.Goals as goal

pub returns : goal.returns
returns c = record { no_event = content-none; same = same_files; places = same_places }
