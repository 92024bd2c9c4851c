use Rattle.cvr_whole.proofs.Runs.{may_be_whole, same_bytes}
use Rattle.cvr_whole.proofs.law.same_bytes.Goals as goal

pub returns : goal.returns
returns c = record { may_be = may_be_whole; bytes = same_bytes }
