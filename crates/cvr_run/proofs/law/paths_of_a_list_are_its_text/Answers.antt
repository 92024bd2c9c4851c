use Rattle.cvr_run.proofs.ListedPaths.{no_end, read_back, three_paths, whole_list}
use Rattle.cvr_run.proofs.law.paths_of_a_list_are_its_text.Goals as goal

pub returns : goal.returns
returns c = record {
  whole = whole_list;
  no_end = no_end;
  read_back = read_back;
  three = three_paths;
}
