use Rattle.cvr_run.proofs.HeldBytes.{held_text, held_lines, held_fault, held_refused}
use Rattle.cvr_run.proofs.law.held_bytes_are_enough.Goals as goal

pub returns : goal.returns
returns c = record {
  text = held_text;
  lines = held_lines;
  merge_fault = held_fault;
  refused = held_refused;
}
