use Rattle.std.proofs.Common.{refl}
use Rattle.cvr_run.specs.Explained.{first_code}
use Rattle.cvr_run.specs.ListedPaths.{parts_at}
use Rattle.cvr_run.proofs.law.codes_are_found_by_their_names.Goals as goal

pub returns-clause-lines : goal.returns-clause-lines
unfolding first_code parts_at
returns-clause-lines c = (refl, refl, refl, refl, refl)
