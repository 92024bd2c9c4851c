-- What the bodies of an accepted file keep, stated without the file: they would stand in a written
-- report of the definition. (NIST SP 1500-103, classes ReportingDevice, CVR, CVRSnapshot; depths:
-- this project's own.)
use Rattle.std.specs.Prelude.{◌≡◌, ◌≢◌, ℕ, List, [], true, Some, None, IsSome, codes}
use Rattle.serde_json.specs.Data.{Data, string}
use Rattle.serde_json.specs.Find.{get}
use Rattle.cdf_form.specs.declared.table.Class.TheVariants as class
use Rattle.cdf_form.specs.declared.table.Group.TheVariants as group
use Rattle.cdf_form.specs.declared.table.Leaf.TheVariants as leaf
use Rattle.cdf_form.specs.declared.table.Kind.TheVariants.{One}
use Rattle.cdf_form.specs.Tables.{Entry, table}
use Rattle.cdf_form.specs.Form.{class_in}
use Rattle.cdf_form.specs.HasForm.{HasForm, IsEntry}
use Rattle.cdf_parts.specs.Proper.{IsProper}
use Rattle.cdf_definition.specs.References.{Scope, in_snapshot, in_cvr}

-- a member of a CVR that its header keeps
abbrev pub IsInHeader : List ℕ → Type 0
IsInHeader name = (name ≢ codes "CVRSnapshot") × (name ≢ codes "CurrentSnapshotId")

-- a CVR but for its two members CVRSnapshot and CurrentSnapshotId
pub record HasHeaderForm (d : Data) : Type 0 where
  pub class_is : class_in group.Cvrs d ≡ Some class.Cvr
  pub needed : (r : Entry) → IsEntry (table class.Cvr) r → IsInHeader r.name → r.required ≡ true
      → IsSome (get r.name d)
  pub member : (r : Entry) (e : Data) → IsEntry (table class.Cvr) r → IsInHeader r.name
      → get r.name d ≡ Some e → HasForm r.kind e
  pub no_snapshots : get (codes "CVRSnapshot") d ≡ None
  pub no_current : get (codes "CurrentSnapshotId") d ≡ None

-- a device's object, at most 125 deep
pub record DeviceStands (id : List ℕ) (d : Data) : Type 0 where
  pub proper : IsProper 125 d
  pub form : HasForm (One (leaf.Object group.ReportingDevices)) d
  pub id_is : get (codes "@id") d ≡ Some (string id)

-- a header's object, at most 125 deep, whose references resolve
pub record HeaderStands (scope : Scope) (device unique : List ℕ) (d : Data) : Type 0 where
  pub proper : IsProper 125 d
  pub form : HasHeaderForm d
  pub references : in_cvr scope d ≡ []
  pub device_is : get (codes "CreatingDeviceId") d ≡ Some (string device)
  pub unique_is : get (codes "UniqueId") d ≡ Some (string unique)

-- a snapshot's object, at most 123 deep, whose references resolve
pub record SnapshotStands (scope : Scope) (id : List ℕ) (d : Data) : Type 0 where
  pub proper : IsProper 123 d
  pub form : HasForm (One (leaf.Object group.Snapshots)) d
  pub references : in_snapshot scope d ≡ []
  pub id_is : get (codes "@id") d ≡ Some (string id)
