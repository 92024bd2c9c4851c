use Rattle.cvr_run.proofs.Merging.{whole_volume, not_empty, no_text, number}
use Rattle.cvr_run.proofs.law.a_merge_has_a_fault_or_a_volume.Goals as goal

pub returns : goal.returns
returns c = record {
  volume = λ definition date device i facts none. (
    whole_volume definition date device i facts none,
    not_empty definition date device i facts
        none,
  );
  fault = no_text;
  number = number;
}
