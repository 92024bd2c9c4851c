use Rattle.cvr_run.proofs.ThreeFiles.{none_or_all, after_lacking}
use Rattle.cvr_run.proofs.examples.memory_ends_a_log_as_stated.Goals as goal

pub returns : goal.returns
returns c = record {
  none_or_all = none_or_all;
  after_lacking = after_lacking;
}
