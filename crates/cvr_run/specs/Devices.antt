-- What contracts see of the devices of a run. (This project's own.)
use Rattle.cdf_types.specs.Device.{Taken}
use Rattle.cvr_run.specs.Opening.{Opener}

-- its output and its log
pub record Outputs : Type 0 where
  pub out : Taken
  pub log : Taken

-- its opener, its output and its log
pub record Devices : Type 0 where
  pub opener : Opener
  pub out : Taken
  pub log : Taken

abbrev pub outputs : Devices → Outputs
outputs devices = record { out = devices.out; log = devices.log }
