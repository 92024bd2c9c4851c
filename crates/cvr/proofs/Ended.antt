-- What the program ended with.
use Rattle.std.proofs.Common.{◌≡◌, ap}
use Rattle.std.specs.Prelude.{slice_index_or}
use Rattle.std.specs.Process.{exit_status}
use Rattle.std.specs.declared.process.ExitCode.{ExitCode}
use Rattle.cvr_run.specs.declared.status.Status.{Status}
use Rattle.cvr_run.specs.declared.status.Status.TheVariants.{Done, Refused, CommandLine, Device}
use Rattle.cvr_run.specs.declared.status.Status.TheVariants.{Memory}
use Rattle.cvr_run.specs.Status.{code_of}
use Rattle.cvr.specs.Ended.{ended, statuses}

pub ended-status : (code : ExitCode) (status : Status) → exit_status code ≡ code_of status
    → ended code ≡ status
ended-status code Done e = ap (λ n. slice_index_or statuses n Memory) e
ended-status code Refused e = ap (λ n. slice_index_or statuses n Memory) e
ended-status code CommandLine e = ap (λ n. slice_index_or statuses n Memory) e
ended-status code Device e = ap (λ n. slice_index_or statuses n Memory) e
ended-status code Memory e = ap (λ n. slice_index_or statuses n Memory) e
