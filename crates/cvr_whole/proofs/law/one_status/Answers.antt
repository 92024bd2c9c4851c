use Rattle.cvr_whole.proofs.Statuses.{same_status, clean_run}
use Rattle.cvr_whole.proofs.law.one_status.Goals as goal

pub returns : goal.returns
returns c = record { same = same_status; done = clean_run }
