-- A report as two parts: its records, and what is left beside them, with an empty array in their
-- place. (This project's own.)
use Rattle.std.specs.Prelude.{◌≡◌, ◌≤◌, List, length, map, IsSome, codes, false}
use Rattle.std.specs.List.{Contains}
use Rattle.serde_json.specs.Data.{Data, object, Members}
use Rattle.serde_json.specs.Find.{get_member}
use Rattle.serde_json.specs.Written.{has_float}
use Rattle.cdf_node.specs.View.{items_of}
use Rattle.cdf_pull.specs.Fold.{with_items_at}
use Rattle.cdf_form.specs.declared.table.Group.TheVariants as group
use Rattle.cdf_form.specs.declared.table.Leaf.TheVariants as leaf
use Rattle.cdf_form.specs.declared.table.Kind.TheVariants.{One}
use Rattle.cdf_form.specs.Tables.{any}
use Rattle.cdf_form.specs.HasForm.{HasForm}
use Rattle.cdf_parts.specs.Places.{Contest}
use Rattle.cdf_typed.specs.Typed.{report_of, cvr_of}
use Rattle.cdf_definition.specs.References.{Scope, scope_of}
use Rattle.cdf_definition.specs.Resolves.{CvrResolves}
use Rattle.cdf_definition.specs.Frame.{Frame}
use Rattle.cdf_definition.specs.Agreement.{Agrees}
use Rattle.cdf_definition.specs.Acceptance.{IsReport}

-- the object with these records at CVR, where it has such a member
abbrev pub with_records : List Data → Members → Data
with_records cvrs left = object (with_items_at (codes "CVR") (items_of cvrs) left)

-- no number of the record is fractional, it has the form of a record, and every reference names
-- something
pub record IsRecord (scope : Scope) (cvr : Data) : Type 0 where
  pub whole : has_float cvr ≡ false
  pub form : HasForm (One (leaf.Object group.Cvrs)) cvr
  pub references : CvrResolves scope cvr

-- where what is left is a report with a member CVR, each record is one of it, and they are fewer
-- than 2^64, they are a report together
abbrev pub RecordsLaw : Type 0
RecordsLaw = (cvrs : List Data) (left : Members) → IsSome (get_member (codes "CVR") left)
    → length cvrs ≤ any
    → IsReport (object left) → ((cvr : Data) → Contains cvrs cvr
    → IsRecord (scope_of (object left)) cvr) → IsReport (with_records cvrs left)

-- records play no part in agreement
abbrev pub AgreesApartLaw : Type 0
AgreesApartLaw = (frame : Frame) (cvrs : List Data) (left : Members) → Agrees frame (object left)
    → Agrees frame (with_records cvrs left)

-- the typed report has the devices of what is left, and the typed records
abbrev pub TypedApartLaw : Type 0
TypedApartLaw = (contests : List Contest) (cvrs : List Data) (left : Members)
    → IsSome (get_member (codes "CVR") left)
    → report_of contests (with_records cvrs left)
    ≡ record {
      devices = (report_of contests (object left)).devices;
      cvrs = map (cvr_of contests) cvrs;
    }
