-- What was printed of a text, and how a run ends after it. (This project's own.)
use Rattle.std.specs.Prelude.{◌≡◌, ◌≢◌, ℕ, List, [], Bool, true, false, if◌then◌else◌, Option, Some}
use Rattle.std.specs.Prelude.{None, Result, Ok, Err, MatchResult}
use Rattle.cdf_types.specs.Device.{Taken, Appends, AppendsPrefix}
use Rattle.cvr_report.specs.declared.fault.WriteFault.{WriteFault}
use Rattle.cvr_report.specs.declared.fault.WriteFault.TheVariants as write
use Rattle.cvr_report.specs.declared.heading.HeadFault.{HeadFault}
use Rattle.cvr_report.specs.declared.heading.HeadFault.TheVariants as head
use Rattle.cvr_run.specs.declared.merge.MergeFault.{MergeFault}
use Rattle.cvr_run.specs.declared.merge.MergeFault.TheVariants.{NotMoment, NoDevice}
use Rattle.cvr_run.specs.declared.printing.PrintFault.{PrintFault}
use Rattle.cvr_run.specs.declared.printing.PrintFault.TheVariants.{Merge, Device, Memory}
use Rattle.cvr_run.specs.declared.refusals.Refusals.{Refusals}
use Rattle.cvr_run.specs.declared.status.Status.{Status}
use Rattle.cvr_run.specs.declared.status.Status.TheVariants as status
use Rattle.cvr_run.specs.Log.{memory_line}
use Rattle.cvr_run.specs.Merge.{merge_fault_line}
use Rattle.cvr_run.specs.Refusals.{status_of}
use Rattle.cvr_run.specs.Logged.{out_line}

-- whether the output failed
abbrev pub is_output : PrintFault → Bool
is_output Device = true
is_output fault = false

-- the fault of a merge, where it is one
abbrev pub merge_part : PrintFault → Option MergeFault
merge_part (Merge fault) = Some fault
merge_part fault = None

-- all of the text where the call succeeded, else a prefix of it; the output has failed exactly
-- where that is the fault; out of memory aside, the merge has the reported fault, or none
abbrev pub Prints : {T : Type 0} → Taken → Taken → Result T PrintFault → Option MergeFault → List ℕ
    → Type 0
Prints old new result fault text =
    MatchResult result
    (λ _. Appends old new text × (new.failed ≡ false) × (fault ≡ None))
    (λ e. AppendsPrefix old new text × (new.failed ≡ is_output e)
    × (e ≢ Memory → fault ≡ merge_part e))

-- ---- from what faults

-- what a fault of a heading, and one of writing, is to a run
abbrev pub of_head : HeadFault → PrintFault
of_head head.NotMoment = Merge NotMoment
of_head head.NoDevice = Merge NoDevice
of_head head.Memory = Memory

abbrev pub of_write : WriteFault → PrintFault
of_write write.Device = Device
of_write write.Memory = Memory

-- ---- how a run ends

-- the line and the status of a run that printed no whole text, by the fault
abbrev pub print_line : PrintFault → List ℕ
print_line (Merge fault) = merge_fault_line fault
print_line Device = out_line true
print_line Memory = memory_line

-- the last line of a run: that of the fault, and none where all was printed
abbrev pub end_line : {T : Type 0} → Result T PrintFault → List ℕ
end_line (Ok x) = []
end_line (Err fault) = print_line fault

abbrev pub print_status : PrintFault → Status
print_status (Merge fault) = status.Refused
print_status Device = status.Device
print_status Memory = status.Memory

-- The status of a run after printing: that of its refusals, or that of the fault. A path that could
-- not be spelled means Memory, whatever the fault.
abbrev pub status_after : {T : Type 0} → Result T PrintFault → Refusals → Status
status_after (Ok x) refusals = status_of refusals
status_after (Err fault) refusals =
    if refusals.path_unspelled then status.Memory else print_status fault
