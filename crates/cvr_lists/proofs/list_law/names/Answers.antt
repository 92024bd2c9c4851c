use Rattle.cvr_office.proofs.Lemmas.{name_is}
use Rattle.cvr_lists.proofs.ConflictLists.{conflicts-is, greatest_count-is}
use Rattle.cvr_lists.proofs.list_law.names.Goals as goal

pub returns : goal.returns
returns c = record {
  named = name_is;
  conflicts = conflicts-is;
  greatest = greatest_count-is;
}
