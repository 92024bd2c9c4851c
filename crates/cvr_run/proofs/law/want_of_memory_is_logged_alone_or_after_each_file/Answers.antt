use Rattle.cvr_run.proofs.Logging.{alone_or_each}
use Rattle.cvr_run.proofs.law.want_of_memory_is_logged_alone_or_after_each_file.Goals as goal

pub returns : goal.returns
returns c = alone_or_each
