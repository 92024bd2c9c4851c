-- Which files are accepted, and what is answered for the others: the first cause that applies.
-- (This project's own; JSON: RFC 8259.)
use Rattle.std.specs.Prelude.{◌≡◌, ℕ, ◌≤◌, List, length, Option, Some, option_map, unwrap_or, false}
use Rattle.std.specs.Option.{option_or}
use Rattle.serde_json.specs.Data.{Data, null}
use Rattle.serde_json.specs.Written.{has_float}
use Rattle.cdf_types.specs.declared.fault.ReadFault.{ReadFault}
use Rattle.cdf_types.specs.declared.fault.ReadFault.TheVariants.{Reference, Disagrees}
use Rattle.cdf_types.specs.declared.report.Report.{Report}
use Rattle.cdf_form.specs.declared.table.Group.TheVariants as group
use Rattle.cdf_form.specs.declared.table.Leaf.TheVariants as leaf
use Rattle.cdf_form.specs.declared.table.Kind.TheVariants.{One}
use Rattle.cdf_form.specs.HasForm.{HasForm}
use Rattle.cdf_form.specs.Form as form
use Rattle.cdf_form.specs.Path.{path_text}
use Rattle.cdf_form.specs.Reading.{value_of, max_file, document_faults, refusal_of, of_file}
use Rattle.cdf_parts.specs.Places.{Contest}
use Rattle.cdf_typed.specs.Typed.{report_of}
use Rattle.cdf_form.specs.Form.{first}
use Rattle.cdf_definition.specs.References.{missing_paths}
use Rattle.cdf_definition.specs.Resolves.{Resolves}
use Rattle.cdf_definition.specs.Frame.{Frame, frame_of}
use Rattle.cdf_definition.specs.Agreement.{disagreements, Agrees}

-- ---- acceptance

-- the file is short enough, and this is its value
abbrev pub Holds : List ℕ → Data → Type 0
Holds bytes d = (length bytes ≤ max_file) × (value_of bytes ≡ Some d)

-- no number is fractional, it has the form of a report, and every reference names something
pub record IsReport (d : Data) : Type 0 where
  pub whole : has_float d ≡ false
  pub form : HasForm (One (leaf.Object group.Reports)) d
  pub references : Resolves d

-- a file that can serve as a definition
abbrev pub Sound : List ℕ → Type 0
Sound bytes = (d : Data) × Holds bytes d × IsReport d

-- a file that is accepted beside a definition: its objects are also the definition's
abbrev pub Valid : Frame → List ℕ → Type 0
Valid frame bytes = (d : Data) × Holds bytes d × IsReport d × Agrees frame d

-- ---- the first cause to refuse

-- why a value is refused by itself, if it is: by its first fault of numbers, else of form, else by
-- its first text that names nothing
abbrev pub own_refusal : Data → Option ReadFault
own_refusal d = option_or (option_map refusal_of (form.first (document_faults d)))
    (option_map (λ p. Reference (path_text p)) (first (missing_paths d)))

-- why a value is refused beside a definition, if it is: as by itself, else by its first object that
-- isn't the definition's
abbrev pub value_refusal : Frame → Data → Option ReadFault
value_refusal frame d = option_or (own_refusal d)
    (option_map (λ p. Disagrees (path_text p)) (first (disagreements frame d)))

-- why a file is refused as a definition, if it is: it is too long; else it is no JSON; else its
-- value is refused by itself
abbrev pub first_unsound : List ℕ → Option ReadFault
first_unsound bytes = of_file own_refusal bytes

-- why a file is refused beside a definition, if it is: it is too long; else it is no JSON; else its
-- value is refused beside the definition
abbrev pub first_refusal : Frame → List ℕ → Option ReadFault
first_refusal frame bytes = of_file (value_refusal frame) bytes

-- ---- what an accepted file gives

-- the value of a file, or null
abbrev pub value_in : List ℕ → Data
value_in bytes = unwrap_or (value_of bytes) null

-- the definition that a file gives
abbrev pub frame_in : List ℕ → Frame
frame_in bytes = frame_of (value_in bytes)

-- the typed report that a file gives, beside the contests of a definition
abbrev pub report_in : List Contest → List ℕ → Report
report_in contests bytes = report_of contests (value_in bytes)
