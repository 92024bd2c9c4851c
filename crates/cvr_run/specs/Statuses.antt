-- Worked examples: the status of each way in which a run ends. (This project's own.)
use Rattle.std.specs.Prelude.{◌≡◌, ℕ, List, [], ◌∷◌, codes, true, false, Result, Ok, Err}
use Rattle.std.specs.Prelude.{String, string_bytes}
use Rattle.std.specs.Global.{Global}
use Rattle.cvr_words.specs.declared.fault.LoggedFault.TheVariants as fault
use Rattle.cvr_run.specs.declared.file.FileFault.TheVariants as file
use Rattle.cvr_run.specs.declared.merge.MergeFault.TheVariants.{NoDevice}
use Rattle.cvr_run.specs.declared.printing.PrintFault.{PrintFault}
use Rattle.cvr_run.specs.declared.printing.PrintFault.TheVariants as print
use Rattle.cvr_run.specs.declared.refusals.Refusals.{Refusals}
use Rattle.cvr_run.specs.declared.status.Status.{Status}
use Rattle.cvr_run.specs.declared.status.Status.TheVariants.{Done, Refused, CommandLine, Device}
use Rattle.cvr_run.specs.declared.status.Status.TheVariants.{Memory}
use Rattle.cvr_run.specs.Answered.{words_line, words_status}
use Rattle.cvr_run.specs.Devices.{Outputs}
use Rattle.cvr_run.specs.Explained.{Explains}
use Rattle.cvr_run.specs.Listed.{IsNoList}
use Rattle.cvr_run.specs.ListedPaths.{end_of, parts_at}
use Rattle.cvr_run.specs.Opening.{Opener}
use Rattle.cvr_run.specs.Printing.{status_after}
use Rattle.cvr_run.specs.Status.{code_of}
use Rattle.cvr_run.specs.Worked.{Unread, NoRoom, stop_line, stop_status}

-- ---- numbers

abbrev pub FiveNumbers : Type 0
FiveNumbers = (code_of Done ≡ 0) × (code_of Refused ≡ 1) × (code_of CommandLine ≡ 2)
    × (code_of Device ≡ 3) × (code_of Memory ≡ 4)

-- ---- a run over its files

-- no file was refused; one was; memory ran out for one; the path in the line of one had no room
abbrev all_well : Refusals
all_well = record { any_refusal = false; file_lacking = false; path_unspelled = false }

abbrev one_refused : Refusals
one_refused = record { any_refusal = true; file_lacking = false; path_unspelled = false }

abbrev one_lacking : Refusals
one_lacking = record { any_refusal = true; file_lacking = true; path_unspelled = false }

abbrev one_unspelled : Refusals
one_unspelled = record { any_refusal = true; file_lacking = false; path_unspelled = true }

-- its text was printed; or not, by this fault
abbrev printed : Result (Unit {0}) PrintFault
printed = Ok (tt {0})

abbrev unprinted : PrintFault → Result (Unit {0}) PrintFault
unprinted fault = Err fault

abbrev pub PrintedWhole : Type 0
PrintedWhole = (status_after printed all_well ≡ Done) × (status_after printed one_refused ≡ Refused)
    × (status_after printed one_lacking ≡ Memory) × (status_after printed one_unspelled ≡ Memory)

-- a merge has no such device, the output failed, or memory ran out
abbrev pub NotPrinted : Type 0
NotPrinted = (status_after (unprinted (print.Merge NoDevice)) all_well ≡ Refused)
    × (status_after (unprinted print.Device) one_refused ≡ Device)
    × (status_after (unprinted print.Memory) one_refused ≡ Memory)
    × (status_after (unprinted print.Device) one_unspelled ≡ Memory)

-- ---- a run that stops before that

-- at a file that isn't there, at one that has no room, or where the list of files has none
abbrev pub StoppedRuns : Type 0
StoppedRuns = (stop_status (Unread (codes "a") file.Device) ≡ Device)
    × (stop_line (Unread (codes "a") file.Device) ≡ codes "a: K1\n")
    × (stop_status (Unread (codes "b") file.Memory) ≡ Memory)
    × (stop_line (Unread (codes "b") file.Memory) ≡ codes "b: K2\n")
    × (stop_status NoRoom ≡ Memory) × (stop_line NoRoom ≡ codes "memory\n")

-- ---- words that ask for no run

-- help, over an output that works and one that failed
abbrev pub HelpIsPrinted : Type 0
HelpIsPrinted = (text : String Global)
    → (words_status (fault.Help text) false ≡ Done) × (words_line (fault.Help text) false ≡ [])
    × (words_status (fault.Help text) true ≡ Device)
    × (words_line (fault.Help text) true ≡ codes "out: X1\n")

-- words without meaning, a step without a form, and words for which memory ran out
abbrev pub WordsAreRefused : Type 0
WordsAreRefused = (text : String Global)
    → (words_status (fault.Refused text) false ≡ CommandLine)
    × (words_line (fault.Refused text) false ≡ string_bytes text)
    × (words_status (fault.BadStep 3 (codes "1=")) true ≡ CommandLine)
    × (words_line (fault.BadStep 3 (codes "1=")) true ≡ codes "1=: L3\n")
    × (words_status fault.Memory false ≡ Memory)
    × (words_line fault.Memory false ≡ codes "memory\n")

-- a file that is no list
abbrev pub NoListAtL : Type 0
NoListAtL = (old new : Opener) (answer : Status) (line : List ℕ)
    → IsNoList old new (codes "l") answer line → (answer ≡ CommandLine) × (line ≡ codes "l: L5\n")

-- E3 is explained, unless the output failed
abbrev pub E3IsExplained : Type 0
E3IsExplained = (answer : Status) (old new : Outputs)
    → Explains (codes "E3" ∷ []) answer old new (Unit {0})
    → (new.out.failed ≡ false → answer ≡ Done) × (new.out.failed ≡ true → answer ≡ Device)

-- ---- ends of paths

-- one text of a list, by lines and by NUL bytes
abbrev pub TwoEnds : Type 0
TwoEnds = let text = 97 ∷ 0 ∷ 98 ∷ 10 ∷ 99 ∷ [] in
    (parts_at (end_of false) text ≡ (97 ∷ 0 ∷ 98 ∷ []) ∷ (99 ∷ []) ∷ [])
    × (parts_at (end_of true) text ≡ (97 ∷ []) ∷ (98 ∷ 10 ∷ 99 ∷ []) ∷ [])
