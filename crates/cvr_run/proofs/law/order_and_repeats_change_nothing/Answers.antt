use Rattle.std.proofs.Common.{ap}
use Rattle.cvr_office.specs.Names.{conflicts}
use Rattle.cvr_office.specs.Tallied.{tally}
use Rattle.cvr_run.specs.Currents.{currents}
use Rattle.cvr_run.specs.Merge.{merge_fault, merge_text}
use Rattle.cvr_run.proofs.Members.{same_held, by_bytes}
use Rattle.cvr_run.proofs.law.order_and_repeats_change_nothing.Goals as goal

pub returns : goal.returns
returns c = record {
  facts = same_held;
  currents = λ definition files others same. ap currents (same_held definition files others same);
  conflicts = λ definition files others same. ap conflicts (same_held definition files others same);
  tally = λ definition files others same.
      ap (tally definition.contests) (same_held definition files others same);
  merge_fault = λ definition date device i files others same.
      ap (merge_fault definition date device i) (same_held definition files others same);
  volume = λ definition date device i files others same.
      ap (merge_text definition date device i) (same_held definition files others same);
  by_bytes = by_bytes;
}
