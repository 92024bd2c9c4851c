use Rattle.std.proofs.Common.{◌≡◌, ◌≤◌, ◌-◌, List, ◌++◌, ℕ, Some, false, IfSome, length, vec_len}
use Rattle.cvr_run.proofs.file.read_into.Given as goal

abbrev pub invariant-reads : goal.invariant-reads
invariant-reads g l = record {
  working : (g.R.Source.left l.source).failed ≡ false;
  stays : (g.R.Source.left l.source).can_fail ≡ (g.R.Source.left l.initial.source).can_fail;
  held : vec_len l.bytes ≤ 67108865;
  piece : length l.piece ≡ 65536;
  all : IfSome (g.R.Source.left l.initial.source).bytes
      (λ xs. (rest : List ℕ) × ((g.R.Source.left l.source).bytes ≡ Some rest)
      × (xs ≡ l.bytes.items ++ rest));
}

abbrev pub decreases-reads : goal.decreases-reads
decreases-reads g l = 67108865 - vec_len l.bytes
