use Rattle.cvr_run.proofs.VersionWords.{unknown_version}
use Rattle.cvr_run.proofs.law.words_for_the_version_are_unknown.Goals as goal

pub returns : goal.returns
returns c = unknown_version
