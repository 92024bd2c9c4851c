use Rattle.std.proofs.Common.{◌≡◌, drop}
use Rattle.cvr_run.specs.MemoryFiles.{found_at, can_fail_at}
use Rattle.cvr_run.proofs.memory_files.find.Given as goal

-- the file is one of those that are left
abbrev pub invariant-loop-file : goal.invariant-loop-file
invariant-loop-file l = record {
  found : found_at (drop l.file-index l.files) l.path ≡ found_at l.files l.path;
  fails : can_fail_at (drop l.file-index l.files) l.path ≡ can_fail_at l.files l.path;
}
