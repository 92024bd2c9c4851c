-- The fault of a merge, by the number of volumes.
use Rattle.std.proofs.Common.{ℕ, List, not, Option, Some, None, nat_lt}
use Rattle.std.specs.Prelude.{if◌then◌else◌}
use Rattle.cdf_form.specs.Form.{is_moment}
use Rattle.cdf_definition.specs.Frame.{Frame}
use Rattle.cvr_report.specs.Head.{is_device_of}
use Rattle.cvr_run.specs.declared.merge.MergeFault.{MergeFault}
use Rattle.cvr_run.specs.declared.merge.MergeFault.TheVariants.{NotMoment, NoDevice, NoVolume}

-- where there are n
abbrev pub fault_with : Frame → List ℕ → List ℕ → ℕ → ℕ → Option MergeFault
fault_with definition date device i n =
    if not (is_moment date) then Some NotMoment
    else (if not (is_device_of definition device) then Some NoDevice
    else (if nat_lt n i then Some (NoVolume n) else None))
