-- How deep the parts of a file's value nest, and what each entry of the table of reports says of a
-- report. (Depths: this project's own.)
use Rattle.std.specs.Prelude.{◌≡◌, ℕ, suc, List, Some, codes}
use Rattle.std.specs.List.{Contains}
use Rattle.serde_json.specs.Data.{Data}
use Rattle.serde_json.specs.Read.{read}
use Rattle.cdf_form.specs.declared.table.Class.TheVariants as class
use Rattle.cdf_form.specs.declared.table.Group.{Group}
use Rattle.cdf_form.specs.declared.table.Group.TheVariants as group
use Rattle.cdf_form.specs.declared.table.Leaf.TheVariants as leaf
use Rattle.cdf_form.specs.declared.table.Key.TheVariants as key
use Rattle.cdf_form.specs.declared.table.Kind.TheVariants.{One, Array}
use Rattle.cdf_form.specs.Tables.{Entry, table, classes_of, required_member}
use Rattle.cdf_form.specs.Form.{key_text}
use Rattle.cdf_form.specs.HasForm.{HasForm}
use Rattle.cdf_form.specs.ByEntry.{AllClasses, find_entry, HasEntry}
use Rattle.cdf_parts.specs.Parts.{array_at, id_of}
use Rattle.cdf_parts.specs.Proper.{IsProper}
use Rattle.cdf_form.specs.Reading.{value_of}
use Rattle.cdf_definition.specs.Acceptance.{IsReport}

-- a file's value was read from its bytes
abbrev pub WasReadLaw : Type 0
WasReadLaw = (bytes : List ℕ) (d : Data) → value_of bytes ≡ Some d → read bytes ≡ Some d

-- that of a report nests at most 127 deep
abbrev pub ReportIsProperLaw : Type 0
ReportIsProperLaw = (bytes : List ℕ) (d : Data) → value_of bytes ≡ Some d → IsReport d
    → IsProper 127 d

-- an item of an array under a name nests two levels less
abbrev pub ListedIsProperLaw : Type 0
ListedIsProperLaw = (n : ℕ) (name : List ℕ) (d e : Data) → Contains (array_at name d) e
    → IsProper (suc (suc n)) d → IsProper n e

-- ---- entries of a report

-- the entries of an election in a report, and of an id
abbrev pub election_entry : Entry
election_entry = required_member (codes "Election") (Array (leaf.Object group.Elections) 1 1 key.Free)

abbrev pub id_entry : Entry
id_entry = required_member (codes "@id") (One leaf.Name)

-- each entry of the table of reports holds of a report
abbrev pub ReportEntryLaw : Type 0
ReportEntryLaw = (r : Entry) (d : Data)
    → find_entry r.name (table class.CastVoteRecordReport) ≡ Some r → IsReport d
    → HasEntry r.required r.name r.kind d

-- where each class of a group has an id, an object of the group has one
abbrev pub HasIdLaw : Type 0
HasIdLaw = (g : Group) (d : Data) → AllClasses (λ c. find_entry (codes "@id") (table c) ≡ Some id_entry)
    (classes_of g)
    → HasForm (One (leaf.Object g)) d → key_text key.Id d ≡ Some (id_of d)
