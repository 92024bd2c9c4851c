-- The lines of the log. (This project's own.)
use Rattle.std.specs.Prelude.{◌≡◌, ℕ, List, [], ◌∷◌, ◌++◌, codes, decimal, Bool, true, false}
use Rattle.json.specs.Print.{escape}
use Rattle.cdf_types.specs.Device.{Taken, Appends, AppendsPrefix}
use Rattle.cdf_types.specs.declared.fault.ReadFault.{ReadFault}
use Rattle.cdf_types.specs.declared.fault.ReadFault.TheVariants.{TooLong, NotJson, Schema}
use Rattle.cdf_types.specs.declared.fault.ReadFault.TheVariants.{Reference, Disagrees, Memory}
use Rattle.cdf_types.specs.Rule.{number_of}
use Rattle.cvr_office.specs.declared.event.Cause.{Cause}
use Rattle.cvr_office.specs.declared.event.Cause.TheVariants.{Read, Join, NoOffice, NoFile}
use Rattle.cvr_office.specs.declared.fault.JoinFault.TheVariants as join

-- the cause, then the path as a JSON string without its quotes, then the rule's number
abbrev pub fault_text : ReadFault → List ℕ
fault_text TooLong = codes "E1"
fault_text NotJson = codes "E2"
fault_text (Schema path rule) = codes "E3 " ++ (escape path ++ (32 ∷ decimal (number_of rule)))
fault_text (Reference path) = codes "E4 " ++ escape path
fault_text (Disagrees path) = codes "E5 " ++ escape path
fault_text Memory = codes "E6"

-- the code of any cause
abbrev pub cause_text : Cause → List ℕ
cause_text (Read fault) = fault_text fault
cause_text (Join join.OtherDefinition) = codes "J1"
cause_text (Join join.Memory) = codes "J2"
cause_text NoOffice = codes "N1"
cause_text NoFile = codes "N2"

-- what was refused, as it was given, and why
abbrev pub fault_line : List ℕ → ReadFault → List ℕ
fault_line what fault = what ++ (codes ": " ++ (fault_text fault ++ 10 ∷ []))

abbrev pub cause_line : List ℕ → Cause → List ℕ
cause_line what cause = what ++ (codes ": " ++ (cause_text cause ++ 10 ∷ []))

-- whether a path stands in the line: its spelling alone takes memory
abbrev pub has_path : ReadFault → Bool
has_path (Schema path rule) = true
has_path (Reference path) = true
has_path (Disagrees path) = true
has_path fault = false

abbrev pub has_path_in : Cause → Bool
has_path_in (Read fault) = has_path fault
has_path_in cause = false

-- out of memory, where no file is the cause; it stands in the place of a line whose path could not
-- be spelled
abbrev pub memory_line : List ℕ
memory_line = codes "memory\n"

-- a log took the text, or a prefix of it where it has failed; one that had failed takes no more
pub record Logs (old new : Taken) (text : List ℕ) : Type 0 where
  pub whole : new.failed ≡ false → Appends old new text
  pub front : AppendsPrefix old new text
  pub silent : old.failed ≡ true → (new.bytes ≡ old.bytes) × (new.failed ≡ true)
