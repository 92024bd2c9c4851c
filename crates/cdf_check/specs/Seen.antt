-- What is seen of the records of a file as it is read, and why the file is refused, by that and by
-- what is left beside the records. (This project's own.)
use Rattle.std.specs.Prelude.{◌≡◌, ◌≤◌, ℕ, List, [], ◌∷◌, length, map, Option, None, Some}
use Rattle.std.specs.Prelude.{option_map, option_and_then, Result, IfOk, IfErr, OnOk, IsSome, codes}
use Rattle.std.specs.Prelude.{if◌then◌else◌, bytes_eq, Bool, true, false, ⊤}
use Rattle.std.specs.List.{All}
use Rattle.std.specs.Option.{option_or}
use Rattle.serde_json.specs.Data.{Data, array, object, no_items, Members, no_members, member}
use Rattle.serde_json.specs.Find.{as_object, get_member}
use Rattle.serde_json.specs.Read.{read}
use Rattle.cdf_node.specs.View.{items_of}
use Rattle.cdf_pull.specs.Fold.{with_items_at}
use Rattle.cdf_types.specs.declared.fault.ReadFault.{ReadFault}
use Rattle.cdf_types.specs.declared.fault.ReadFault.TheVariants.{Schema}
use Rattle.cdf_types.specs.declared.report.Cvr.{Cvr}
use Rattle.cdf_types.specs.declared.report.ReportingDevice.{ReportingDevice}
use Rattle.cdf_types.specs.declared.rule.Rule.TheVariants as rule
use Rattle.cdf_form.specs.declared.table.Group.TheVariants as group
use Rattle.cdf_form.specs.declared.table.Leaf.TheVariants as leaf
use Rattle.cdf_form.specs.declared.found.Path.{Path as Found}
use Rattle.cdf_form.specs.Form as form
use Rattle.cdf_form.specs.Form.{Fault, at_member, deeper_fault, first, float_faults, leaf_faults}
use Rattle.cdf_form.specs.Found.{fault_of, path_of}
use Rattle.cdf_form.specs.Tables.{any}
use Rattle.cdf_form.specs.Path.{path_text}
use Rattle.cdf_form.specs.Reading.{refusal_of, IsMemory, document_faults}
use Rattle.cdf_form.specs.Records.{cvrs_faults}
use Rattle.cdf_typed.specs.Typed.{cvr_of, report_of}
use Rattle.cdf_check.specs.declared.record_names.RecordNames.{RecordNames}
use Rattle.cdf_check.specs.declared.seen.Seen.{Seen}
use Rattle.cdf_check.specs.declared.seen.Seen.TheVariants.{Right, Unsettled, Form, Fraction}
use Rattle.cdf_definition.specs.Paths.{below_each}
use Rattle.cdf_definition.specs.References.{Scope, in_cvr}
use Rattle.cdf_definition.specs.Frame.{Frame}
use Rattle.cdf_definition.specs.Sound.{IsSound}
use Rattle.cdf_definition.specs.Agreement.{disagreements}
use Rattle.cdf_definition.specs.Acceptance.{value_refusal}
use Rattle.cdf_check.specs.Apart.{with_records}
use Rattle.cdf_check.specs.Within.{AreNamed, ListsNamed}
use Rattle.cdf_definition.specs.Naming.{NamesOwn}

-- ---- numbers and form

-- the path from the file of a fault of its records, whose own path starts at their array
abbrev pub in_file : Fault → List ℕ
in_file f = path_text (at_member (codes "CVR") ∷ f.path)

-- the path of the first number of a member that isn't whole
abbrev pub member_fraction : List ℕ → Data → Option (List ℕ)
member_fraction name d =
    option_map (λ f. path_text (at_member name ∷ f.path)) (first (float_faults d))

-- that of a file, from the members of what is left beside its records, and from that of the records
abbrev pub file_fraction : Members → Option (List ℕ) → Option (List ℕ)
file_fraction no_members fraction = None
file_fraction (member name d ms) fraction = option_or
    (if bytes_eq name (codes "CVR") then fraction else member_fraction name d)
    (file_fraction ms fraction)

-- the first fault of a file whose numbers are whole in its records, from what is left beside them
-- and from their first fault of form: of its numbers, else of the report's class, else of the
-- records, else of all else
abbrev pub first_of_file : Data → Option Fault → Option Fault
first_of_file left fault =
    option_or (form.first (float_faults left))
    (option_or (form.first (leaf_faults (leaf.Object group.Reports) left))
    (option_or (option_map (deeper_fault (at_member (codes "CVR"))) fault)
    (form.first (document_faults left))))

-- ---- what is seen of records

-- the path of their first number that isn't whole
abbrev pub fraction_seen : {T : Type 0} → Seen T → Option (List ℕ)
fraction_seen (Fraction path) = Some path
fraction_seen seen = None

-- their first fault of form, where each number is whole
abbrev pub fault_seen : {T : Type 0} → Seen T → Option Fault
fault_seen (Form found) = Some (fault_of found)
fault_seen seen = None

-- the refusal for the first fault of numbers, or else of form, from what is left beside the records
-- and from what is seen of these
abbrev pub form_refusal : {T : Type 0} → Data → Seen T → Option ReadFault
form_refusal left seen =
    option_and_then (λ ms. option_or (option_map (λ path. Schema path rule.NotWhole)
    (file_fraction ms (fraction_seen seen)))
    (option_map refusal_of (first_of_file left (fault_seen seen)))) (as_object left)

-- all that each record names is the definition's or its own, devices, units and parties aside;
-- these three, and what is kept of the typed records
pub record AreKept {T : Type 0} (keeps : List Cvr → T → Type 0) (frame : Frame) (ds : List Data)
    (named : RecordNames) (kept : T) : Type 0 where
  pub settled : All (NamesOwn frame) ds
  pub names : AreNamed ds named
  pub records : keeps (map (cvr_of frame.contests) ds) kept

-- of records that have no such fault: what is kept, or that one names what is neither
abbrev pub IsKept : {T : Type 0} → (List Cvr → T → Type 0) → Frame → List Data → Seen T → Type 0
IsKept keeps frame ds (Right names records) = AreKept keeps frame ds names records
IsKept keeps frame ds Unsettled = ¬ All (NamesOwn frame) ds
IsKept keeps frame ds seen = ⊤

-- their first number that isn't whole is seen, or else their first fault of form; and what is kept
pub record IsSeen {T : Type 0} (keeps : List Cvr → T → Type 0) (frame : Frame) (ds : List Data)
    (seen : Seen T) : Type 0 where
  pub few : length ds ≤ any
  pub fraction : fraction_seen seen
      ≡ option_map in_file (first (float_faults (array (items_of ds))))
  pub form : fraction_seen seen ≡ None → fault_seen seen ≡ first (cvrs_faults (items_of ds))
  pub kept : IsKept keeps frame ds seen

-- ---- what they name

-- what is seen of the records when a refused file is read again: the path of their first text that
-- names nothing, from their array
abbrev pub IsUnnamed : Scope → List Data → Option Found → Type 0
IsUnnamed scope ds found = option_map path_of found ≡ first (below_each (in_cvr scope) ds 0)

-- ---- the answer

-- the answer is the devices of a value that nothing refuses, and what is kept of its records; or
-- why the value is refused; or out of memory
pub record IsJudged {T : Type 0} (keeps : List Cvr → T → Type 0) (frame : Frame) (d : Data)
    (answer : Result (List ReportingDevice × T) ReadFault) : Type 0 where
  pub accepted : OnOk answer (value_refusal frame d ≡ None)
  pub devices : IfOk answer (λ p. p.0 ≡ (report_of frame.contests d).devices)
  pub kept : IfOk answer (λ p. keeps (report_of frame.contests d).cvrs p.1)
  pub err : IfErr answer (λ e. ¬ IsMemory e → value_refusal frame d ≡ Some e)

-- the text is what is left with records put in; neither it nor what is left has a fault of numbers
-- or form
abbrev pub HasForms : List ℕ → Data → Type 0
HasForms text left = record {
  records : List Data;
  members : Members;
  whole : read text ≡ Some (with_records records members);
  left_is : left ≡ object members;
  emptied : with_items_at (codes "CVR") no_items members ≡ members;
  some : IsSome (get_member (codes "CVR") members);
  sound : document_faults (with_records records members) ≡ [];
  rest : document_faults (object members) ≡ [];
}

-- what is left is sound and agrees, and lists each device, unit and party that the records name
pub record Settles (frame : Frame) (left : Data) (names : RecordNames) : Type 0 where
  pub sound : IsSound left
  pub agrees : disagreements frame left ≡ []
  pub listed : ListsNamed left names

-- the file is accepted: its records are right, and what is left settles what they name
abbrev pub Accepts : {T : Type 0} → Frame → Data → Seen T → Type 0
Accepts frame left (Right names records) = Settles frame left names
Accepts frame left seen = ⊥

-- the value is refused
abbrev pub Refuses : Frame → List ℕ → Type 0
Refuses frame text = (d : Data) → read text ≡ Some d → value_refusal frame d ≡ None → ⊥

-- the value is refused, and this is the cause
abbrev pub IsRefusedFor : Frame → List ℕ → ReadFault → Type 0
IsRefusedFor frame text fault = (d : Data) → read text ≡ Some d → value_refusal frame d ≡ Some fault

abbrev pub is_array : Option Data → Bool
is_array (Some (array ds)) = true
is_array o = false
