-- What the program ends with. (This project's own.)
use Rattle.std.specs.Prelude.{List, [], ◌∷◌, slice_index_or}
use Rattle.std.specs.Process.{exit_status}
use Rattle.std.specs.declared.process.ExitCode.{ExitCode}
use Rattle.cvr_run.specs.declared.status.Status.{Status}
use Rattle.cvr_run.specs.declared.status.Status.TheVariants.{Done, Refused, CommandLine, Device}
use Rattle.cvr_run.specs.declared.status.Status.TheVariants.{Memory}

-- the statuses from the exit status 0 on
abbrev pub statuses : List Status
statuses = Done ∷ Refused ∷ CommandLine ∷ Device ∷ Memory ∷ []

-- the status that the program ended with
abbrev pub ended : ExitCode → Status
ended code = slice_index_or statuses (exit_status code) Memory
