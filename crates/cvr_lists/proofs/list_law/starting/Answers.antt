use Rattle.cvr_lists.proofs.PlainLists.{start_is, plain_start}
use Rattle.cvr_lists.proofs.list_law.starting.Goals as goal

pub returns : goal.returns
returns c = record {
  set = start_is;
  start = plain_start;
}
