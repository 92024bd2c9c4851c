use Rattle.cvr_run.proofs.DrillLaws.{at_start, one_import, one_exchange, files_held, reached_held}
use Rattle.cvr_run.proofs.DrillLaws.{same_reached, imports_held, by_places, both_ways_held}
use Rattle.cvr_run.proofs.DrillLaws.{each_imports_both, one_line, two_lines}
use Rattle.cvr_run.proofs.law.offices_of_a_drill_hold_what_a_run_holds.Goals as goal

pub returns : goal.returns
returns c = record {
  start = at_start;
  import = one_import;
  exchange = one_exchange;
  files_reached = files_held;
  reached = reached_held;
  same_reached = same_reached;
  all_imported = imports_held;
  by_places = by_places;
  both_ways = both_ways_held;
  each_imports_both = each_imports_both;
  one_line = one_line;
  two_lines = two_lines;
}
