-- The faults of words that give no request.
use Rattle.std.proofs.Common.{◌≡◌, ◌⊎◌, ◌∙◌, List, [], Some, inl, inr, sym, subst, arith}
use Rattle.clap.specs.Words.{IsAmong, Row, Text, fault_of, subcommand_of}
use Rattle.clap.specs.declared.error.ErrorKind.{ErrorKind}
use Rattle.clap.specs.declared.error.ErrorKind.TheVariants.{DisplayHelp, OutOfMemory}
use Rattle.cvr_words.specs.Fault.{IsDrillFault, IsFault, IsLoggedFault, IsOfKind, word_fault}
use Rattle.cvr_words.specs.Line.{cvr_line}
use Rattle.cvr_words.specs.declared.fault.LoggedFault.{LoggedFault}
use Rattle.cvr_words.specs.declared.fault.LoggedFault.TheVariants as line

-- a fault of the error's kind is a fault of the words
pub fault_is : (words : List Text) (k : ErrorKind) (f : LoggedFault) → IsOfKind k f
    → (k ≡ OutOfMemory) ⊎ IsAmong k (fault_of cvr_line words) → IsLoggedFault words f
fault_is words k (line.Refused t) h (inl e) = absurd (h.1 e)
fault_is words k (line.Refused t) h (inr a) = (k, a, h.0, h.1)
fault_is words k (line.Help t) h (inl e) = let bad : DisplayHelp ≡ OutOfMemory = sym h ∙ e in cc
fault_is words k (line.Help t) h (inr a) = subst (λ j. IsAmong j (fault_of cvr_line words)) h a
fault_is words k (line.BadStep n s) h p = absurd h
fault_is words k line.Memory h p = tt

-- a fault of a drill's steps is a fault of words in which clap finds none
pub drill_fault_is : (words : List Text) (name : Text) (rows : List Row) (f : LoggedFault)
    → fault_of cvr_line words ≡ [] → subcommand_of cvr_line words ≡ Some (name, rows)
    → IsDrillFault name rows f → IsLoggedFault words f
drill_fault_is words name rows f fine is h = grind arith

-- and so without the text of a step
pub word_fault_is : (words : List Text) (f : LoggedFault) → IsLoggedFault words f
    → IsFault words (word_fault f)
word_fault_is words (line.Refused t) h = h
word_fault_is words (line.Help t) h = h
word_fault_is words (line.BadStep n s) h = (h.0, h.1, h.2, h.3.0)
word_fault_is words line.Memory h = tt
