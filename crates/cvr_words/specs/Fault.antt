-- Why words give no request. (This project's own.)
use Rattle.std.specs.Prelude.{◌≡◌, ◌≢◌, List, [], Some, ⊤, codes}
use Rattle.clap.specs.Words.{IsAmong, Row, Text, fault_of, subcommand_of}
use Rattle.clap.specs.declared.error.ErrorKind.{ErrorKind}
use Rattle.clap.specs.declared.error.ErrorKind.TheVariants.{DisplayHelp, OutOfMemory}
use Rattle.cvr_words.specs.Line.{cvr_line}
use Rattle.cvr_words.specs.Rows.{words_in}
use Rattle.cvr_words.specs.Steps.{IsBadStep, bad_place}
use Rattle.cvr_words.specs.declared.fault.LoggedFault.{LoggedFault}
use Rattle.cvr_words.specs.declared.fault.LoggedFault.TheVariants as line
use Rattle.cvr_words.specs.declared.fault.WordFault.{WordFault}
use Rattle.cvr_words.specs.declared.fault.WordFault.TheVariants as fault

-- the fault without the text of a step
abbrev pub word_fault : LoggedFault → WordFault
word_fault (line.Refused text) = fault.Refused text
word_fault (line.Help text) = fault.Help text
word_fault (line.BadStep place step) = fault.BadStep place
word_fault line.Memory = fault.Memory

-- the fault of an error of clap, by the error's kind
abbrev pub IsOfKind : ErrorKind → LoggedFault → Type 0
IsOfKind kind (line.Refused text) = (kind ≢ DisplayHelp) × (kind ≢ OutOfMemory)
IsOfKind kind (line.Help text) = kind ≡ DisplayHelp
IsOfKind kind (line.BadStep place step) = ⊥
IsOfKind kind line.Memory = ⊤

-- the first bad step of a drill, or memory was refused
abbrev pub IsDrillFault : Text → List Row → LoggedFault → Type 0
IsDrillFault name rows (line.BadStep place step) = (name ≡ codes "drill")
    × IsBadStep (words_in (codes "STEP") rows) (line.BadStep place step)
IsDrillFault name rows line.Memory = ⊤
IsDrillFault name rows _ = ⊥

-- clap refused the words for another cause than help or memory; it answered help; it found no fault
-- in them, and they name a drill with a bad step; or memory was refused
abbrev pub IsFault : List Text → WordFault → Type 0
IsFault words (fault.Refused text) = (kind : ErrorKind) × IsAmong kind (fault_of cvr_line words)
    × (kind ≢ DisplayHelp) × (kind ≢ OutOfMemory)
IsFault words (fault.Help text) = IsAmong DisplayHelp (fault_of cvr_line words)
IsFault words (fault.BadStep place) =
    (fault_of cvr_line words ≡ []) × (rows : List Row)
    × (subcommand_of cvr_line words ≡ Some (codes "drill", rows))
    × (bad_place (words_in (codes "STEP") rows) ≡ Some place)
IsFault words fault.Memory = ⊤

-- the same; the step that is reported is the bad one
abbrev pub IsLoggedFault : List Text → LoggedFault → Type 0
IsLoggedFault words (line.Refused text) = IsFault words (fault.Refused text)
IsLoggedFault words (line.Help text) = IsFault words (fault.Help text)
IsLoggedFault words (line.BadStep place step) =
    (fault_of cvr_line words ≡ []) × (rows : List Row)
    × (subcommand_of cvr_line words ≡ Some (codes "drill", rows))
    × IsBadStep (words_in (codes "STEP") rows) (line.BadStep place step)
IsLoggedFault words line.Memory = ⊤
