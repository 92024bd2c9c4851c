use Rattle.cvr_run.proofs.Imports.{content_is_held}
use Rattle.cvr_run.proofs.law.held_is_the_content_after_imports.Goals as goal

pub returns : goal.returns
returns c = content_is_held
