-- A run that ends out of memory, before it has printed anything.
use Rattle.std.proofs.Common.{◌≡◌, ℕ, List, Bool, false, rules}
use Rattle.cdf_types.specs.Device.{Taken}
use Rattle.cvr_run.specs.declared.status.Status.{Status}
use Rattle.cvr_run.specs.declared.status.Status.TheVariants.{Memory}
use Rattle.cvr_run.specs.Ends.{Ends}

pub ends_in_memory : (before : Taken) (text : List ℕ) (any_refused : Bool) (status : Status)
    → before.failed ≡ false → status ≡ Memory → Ends before before text any_refused status
ends_in_memory before text any_refused status working is = search rules
