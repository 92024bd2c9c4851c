-- A report's lists: its Election, GpUnits and Parties as they stand in it; and what is left of a
-- report beside them. A report with the lists of its definition needs no look at these. (NIST SP
-- 1500-103, class CastVoteRecordReport; which members are lists is this project's own.)
use Rattle.std.specs.Prelude.{◌≡◌, ◌||◌, ⊤, ℕ, List, [], ◌∷◌, Bool, false, Some}
use Rattle.std.specs.Prelude.{option_map, bytes_eq, codes}
use Rattle.serde_json.specs.Data.{Data}
use Rattle.serde_json.specs.Find.{get}
use Rattle.serde_json.specs.Written.{has_float}
use Rattle.cdf_form.specs.declared.table.Class.TheVariants as class
use Rattle.cdf_form.specs.declared.table.Group.TheVariants as group
use Rattle.cdf_form.specs.Tables.{Entry, table}
use Rattle.cdf_form.specs.Form.{class_in}
use Rattle.cdf_form.specs.ByEntry.{HasEntry}
use Rattle.cdf_parts.specs.Parts.{array_at, ids_at}
use Rattle.cdf_definition.specs.Frame.{Frame, frame_of}
use Rattle.cdf_definition.specs.Resolves.{AllName}
use Rattle.cdf_definition.specs.Sound.{IsSound, WasRead}
use Rattle.cdf_definition.specs.Acceptance.{IsReport}
use Rattle.cdf_definition.specs.Tree.{owned}
use Rattle.cdf_definition.specs.declared.lists.Lists.{Lists}

-- the members whose values are lists
abbrev pub is_list : List ℕ → Bool
is_list name = bytes_eq name (codes "Election") || bytes_eq name (codes "GpUnit")
    || bytes_eq name (codes "Party")

-- two values have the same lists
pub record SameLists (c d : Data) : Type 0 where
  pub elections : get (codes "Election") c ≡ get (codes "Election") d
  pub units : get (codes "GpUnit") c ≡ get (codes "GpUnit") d
  pub parties : get (codes "Party") c ≡ get (codes "Party") d

-- a value has the lists of some sound report of the definition
abbrev pub HasLists : Frame → Data → Type 0
HasLists f d = ∥ ((c : Data) × IsSound c × (f ≡ frame_of c) × SameLists c d) ∥₁

-- ---- beside the lists

-- what the entries say of a value, but for those of lists
abbrev pub HasEntries : List Entry → Data → Type 0
HasEntries [] d = ⊤
HasEntries (r ∷ rs) d =
    (is_list r.name ≡ false → HasEntry r.required r.name r.kind d) × HasEntries rs d

-- no number is fractional, the rest has the form of a report, and each device that is said to have
-- generated it is listed
pub record HasRest (d : Data) : Type 0 where
  pub whole : has_float d ≡ false
  pub class_is : class_in group.Reports d ≡ Some class.CastVoteRecordReport
  pub entries : HasEntries (table class.CastVoteRecordReport) d
  pub devices : AllName (ids_at (codes "ReportingDevice") d) (codes "ReportGeneratingDeviceIds") d

-- that of a report is
abbrev pub RestOfReportLaw : Type 0
RestOfReportLaw = (d : Data) → IsReport d → HasRest d

-- a value without records is a report where it has the lists of one, and its rest is that of one
abbrev pub RestLaw : Type 0
RestLaw = (c d : Data) → IsReport c → SameLists c d → array_at (codes "CVR") d ≡ [] → HasRest d
    → IsReport d

-- ---- what is held

-- these are the lists of a value
pub record AreListsOf (lists : Lists) (d : Data) : Type 0 where
  pub elections : option_map owned lists.elections ≡ get (codes "Election") d
  pub units : option_map owned lists.units ≡ get (codes "GpUnit") d
  pub parties : option_map owned lists.parties ≡ get (codes "Party") d

-- the definition and the lists are those of one sound report
abbrev pub AreOfOne : Frame → Lists → Type 0
AreOfOne f lists =
    ∥ ((c : Data) × WasRead c × IsSound c × (f ≡ frame_of c) × AreListsOf lists c) ∥₁
