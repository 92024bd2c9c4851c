-- What `merge` prints, and why it prints nothing. (This project's own.)
use Rattle.std.specs.Prelude.{ℕ, List, [], ◌∷◌, ◌++◌, codes, decimal, not, nat_lt, if◌then◌else◌}
use Rattle.std.specs.Prelude.{Option, Some, None, is_some}
use Rattle.cdf_form.specs.Form.{is_moment}
use Rattle.cdf_definition.specs.Frame.{Frame}
use Rattle.cvr_fact_types.specs.Facts.{Facts}
use Rattle.cvr_report.specs.Head.{is_device_of}
use Rattle.cvr_report.specs.Page.{volumes}
use Rattle.cvr_report.specs.Volume.{volume}
use Rattle.cvr_run.specs.declared.merge.MergeFault.{MergeFault}
use Rattle.cvr_run.specs.declared.merge.MergeFault.TheVariants.{NotMoment, NoDevice, NoVolume}

-- why there is no volume i of these facts under a date and a device: the date is no moment; else
-- the definition has no such device; else there are fewer volumes
abbrev pub merge_fault : Frame → List ℕ → List ℕ → ℕ → Facts → Option MergeFault
merge_fault definition date device i facts =
    if not (is_moment date) then Some NotMoment
    else (if not (is_device_of definition device) then Some NoDevice
    else (if nat_lt (volumes facts) i then Some (NoVolume (volumes facts)) else None))

-- that volume, and nothing where there is none
abbrev pub merge_text : Frame → List ℕ → List ℕ → ℕ → Facts → List ℕ
merge_text definition date device i facts =
    if is_some (merge_fault definition date device i facts) then []
    else volume definition (record { date = date; device = device }) facts i

-- the line of a fault: its code, and of a volume that is not there the number of volumes
abbrev pub merge_fault_line : MergeFault → List ℕ
merge_fault_line NotMoment = codes "merge: H1\n"
merge_fault_line NoDevice = codes "merge: H2\n"
merge_fault_line (NoVolume n) = codes "merge: V1 " ++ (decimal n ++ 10 ∷ [])

-- and nothing where there is no fault
abbrev pub merge_lines : Option MergeFault → List ℕ
merge_lines None = []
merge_lines (Some fault) = merge_fault_line fault
