-- The exit status of the program. (This project's own.)
use Rattle.std.specs.Prelude.{ℕ}
use Rattle.cvr_run.specs.declared.status.Status.{Status}
use Rattle.cvr_run.specs.declared.status.Status.TheVariants.{Done, Refused, CommandLine, Device}
use Rattle.cvr_run.specs.declared.status.Status.TheVariants.{Memory}

-- the exit status of the program: 0 to 4
abbrev pub code_of : Status → ℕ
code_of Done = 0
code_of Refused = 1
code_of CommandLine = 2
code_of Device = 3
code_of Memory = 4
