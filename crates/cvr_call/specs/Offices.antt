-- What the calls on an office leave with their caller. (This project's own.)
use Rattle.std.specs.Prelude.{◌≡◌, ◌⊎◌, ℕ, List, [], ◌∷◌, codes, length, nat_le}
use Rattle.std.specs.Prelude.{if◌then◌else◌}
use Rattle.std.specs.Prelude.{Option, None, Some}
use Rattle.std.specs.FinSet.{union}
use Rattle.cdf_types.specs.Rule.{number_of}
use Rattle.cdf_types.specs.declared.fault.ReadFault.{ReadFault}
use Rattle.cdf_types.specs.declared.fault.ReadFault.TheVariants as fault
use Rattle.cdf_parts.specs.Parts.{record_count}
use Rattle.cdf_definition.specs.Acceptance.{Sound, Valid, frame_in, value_in}
use Rattle.cdf_definition.specs.Frame.{IsSame}
use Rattle.cvr_facts.specs.Reports.{facts}
use Rattle.cvr_office.specs.CanHold.{starting_content}
use Rattle.cvr_office.specs.Readers.{growth}
use Rattle.cvr_cached.specs.Held.{Holding}
use Rattle.cvr_call.specs.Left.{no_memory, no_room, put_into}
use Rattle.cvr_call.specs.declared.refusal.CvrRefusal.{CvrRefusal}
use Rattle.cvr_call.specs.declared.offices.CvrReceipt.{CvrReceipt}

-- ---- statuses, beside those of the other call

abbrev pub done : ℕ
done = 0

abbrev pub refused : ℕ
refused = 1

-- the offices have different definitions
abbrev pub other_definition : ℕ
other_definition = 8

-- an answer is one of those that are documented: done, the call's own refusal, or out of memory
abbrev pub IsAnswered : ℕ → ℕ → Type 0
IsAnswered refusal status = (status ≡ done) ⊎ (status ≡ refusal) ⊎ (status ≡ no_memory)

-- ---- a text

-- a text stands in a room as far as it fits, with its length beside it
pub record Shows (text old new : List ℕ) (size status : ℕ) : Type 0 where
  pub status_is : status ≡ (if nat_le (length text) (length old) then done else no_room)
  pub room : new ≡ put_into old text
  pub size_is : size ≡ length text

-- so it does, unless memory ran out
abbrev pub ShowsUnless : List ℕ → List ℕ → List ℕ → ℕ → ℕ → Type 0
ShowsUnless text old new size status = (status ≡ no_memory) ⊎ Shows text old new size status

-- ---- a refused file

-- the number of its code: 1 for E1
abbrev pub code_number : ReadFault → ℕ
code_number fault.TooLong = 1
code_number fault.NotJson = 2
code_number (fault.Schema path rule) = 3
code_number (fault.Reference path) = 4
code_number (fault.Disagrees path) = 5
code_number fault.Memory = 6

-- the number of the rule that it breaks, or 0
abbrev pub rule_number : ReadFault → ℕ
rule_number (fault.Schema path rule) = number_of rule
rule_number fault = 0

-- where it is in the file
abbrev pub fault_path : ReadFault → List ℕ
fault_path (fault.Schema path rule) = path
fault_path (fault.Reference path) = path
fault_path (fault.Disagrees path) = path
fault_path fault = []

abbrev pub fault_status : ReadFault → ℕ
fault_status fault.Memory = no_memory
fault_status fault = refused

-- a fault is reported: its numbers, and its path in a room as far as it fits, with its length
pub record LeavesFault (fault : ReadFault) (old new : List ℕ) (handed_over : CvrRefusal)
    : Type 0 where
  pub code : handed_over.code ≡ code_number fault
  pub rule : handed_over.rule ≡ rule_number fault
  pub path : new ≡ put_into old (fault_path fault)
  pub size : handed_over.path ≡ length (fault_path fault)

-- the fault of a file is reported, if it has one
abbrev pub LeavesFirst : Option ReadFault → List ℕ → List ℕ → CvrRefusal → Type 0
LeavesFirst None old new handed_over = ⊥
LeavesFirst (Some fault) old new handed_over = LeavesFault fault old new handed_over

-- ---- an import

-- an office took in a file
pub record TookIn (file : List ℕ) (handed_over : CvrReceipt) (old new : Holding) : Type 0 where
  pub content : new.content.facts ≡ union old.content.facts (facts file)
  pub valid : Valid old.content.frame file
  pub cvrs : handed_over.cvrs ≡ record_count (value_in file)
  pub new_facts : handed_over.new_facts ≡ growth old.content.facts (facts file)

-- ---- a new office

-- the office of a definition that was read from a file
pub record IsNew (file : List ℕ) (office : Holding) : Type 0 where
  pub sound : Sound file
  pub frame : office.content.frame ≡ frame_in file
  pub content : office.content.facts ≡ starting_content (frame_in file)

-- ---- a join

-- an office took in what another holds
pub record Joined (theirs : Holding) (handed_over : ℕ) (old new : Holding) : Type 0 where
  pub content : new.content.facts ≡ union old.content.facts theirs.content.facts
  pub same : IsSame old.content.frame theirs.content.frame
  pub new_facts : handed_over ≡ growth old.content.facts theirs.content.facts

-- ---- examples

-- a text of two bytes, in a room of three and in one of one
pub record TextOfTwo : Type 0 where
  pub fits : Shows (7 ∷ 8 ∷ []) (1 ∷ 2 ∷ 3 ∷ []) (7 ∷ 8 ∷ 3 ∷ []) 2 done
  pub cut : Shows (7 ∷ 8 ∷ []) (1 ∷ []) (7 ∷ []) 2 no_room

-- E4 at the path `/a`, in a room of three bytes
abbrev pub PathOfTwo : Type 0
PathOfTwo = LeavesFault (fault.Reference (codes "/a")) (1 ∷ 2 ∷ 3 ∷ []) (47 ∷ 97 ∷ 3 ∷ [])
    (record { code = 4; rule = 0; path = 2 })
