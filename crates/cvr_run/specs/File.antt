-- What is held of a file, and why one was not read. (This project's own.)
use Rattle.std.specs.Prelude.{ℕ, Bool, true, false}
use Rattle.cvr_run.specs.declared.file.FileFault.{FileFault}
use Rattle.cvr_run.specs.declared.file.FileFault.TheVariants.{Device, Memory}

-- the most bytes that are held: one more than a file may have
abbrev pub held_bytes : ℕ
held_bytes = 67_108_865

-- whether it was the device that failed
abbrev pub is_file_device : FileFault → Bool
is_file_device Device = true
is_file_device Memory = false
