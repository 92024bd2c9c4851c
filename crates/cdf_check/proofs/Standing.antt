-- The bodies of an accepted file stand.
use Rattle.std.proofs.Common.{◌≡◌, ℕ, List, [], map, Contains, Some, IsSome, ◌≤◌}
use Rattle.std.proofs.Common.{option_and_then, codes, refl, sym, ap, ◌∙◌, subst, arith}
use Rattle.serde_json.specs.Data.{Data, string, object, Members}
use Rattle.serde_json.specs.Find.{get, as_str}
use Rattle.serde_json.specs.Read.{read, max_depth}
use Rattle.serde_json.specs.Written.{compact_text}
use Rattle.cdf_form.specs.declared.table.Class.TheVariants as class
use Rattle.cdf_form.specs.declared.table.Group.TheVariants as group
use Rattle.cdf_form.specs.declared.table.Leaf.TheVariants as leaf
use Rattle.cdf_form.specs.declared.table.Key.TheVariants as key
use Rattle.cdf_form.specs.declared.table.Kind.TheVariants.{One, Array}
use Rattle.cdf_form.specs.Tables.{Entry, table, required_member, optional_member, any, classes_of}
use Rattle.cdf_form.specs.Form.{find_class}
use Rattle.cdf_form.specs.HasForm.{HasForm, IsEntry}
use Rattle.cdf_parts.specs.Parts.{array_at, ids_at, id_of, text_at, the_election}
use Rattle.cdf_parts.specs.Places.{Texts, contest_of}
use Rattle.cdf_parts.specs.Proper.{MembersAreWell, IsProper}
use Rattle.cdf_parts.specs.Removing.{without}
use Rattle.cdf_form.specs.Reading.{value_of}
use Rattle.cdf_form.specs.ByEntry.{HasEntry}
use Rattle.cdf_form.proofs.Laws.{has_class, only_class, entry_named, is_object, must_be_text}
use Rattle.cdf_form.proofs.Laws.{items_have_form}
use Rattle.cdf_parts.proofs.Laws.{gone, others_stay, without_well, without_proper, read-proper}
use Rattle.cdf_parts.proofs.Laws.{proper_deeper}
use Rattle.cdf_form.proofs.Lemmas.{class_of_group}
use Rattle.cdf_typed.specs.Typed.{header_of}
use Rattle.cdf_definition.specs.References.{Scope, scope_of, in_cvr, in_snapshot}
use Rattle.cdf_definition.specs.Paths.{each}
use Rattle.cdf_definition.specs.Frame.{Frame, scope_in}
use Rattle.cdf_definition.specs.Sound.{IsFrame}
use Rattle.cdf_definition.specs.Acceptance.{IsReport, Valid}
use Rattle.cdf_definition.specs.Bodies.{HasHeaderForm, DeviceStands, HeaderStands, SnapshotStands}
use Rattle.cdf_definition.specs.Laws.{ReferencesLaw}
use Rattle.cdf_check.specs.Laws.{SameElectionLaw, DevicesStandLaw, HeadersStandLaw}
use Rattle.cdf_check.specs.Laws.{SnapshotsStandLaw}
use Rattle.cdf_definition.proofs.Lemmas.{left_nil}
use Rattle.cdf_check.specs.Wider.{Includes, Wider}
use Rattle.cdf_check.proofs.Wider.{IsHeaderOf, cvr_parts, each_at, snapshot_wider, header_wider}
use Rattle.cdf_check.proofs.Wider.{agreed_wider}
use Rattle.cdf_check.proofs.SameElection.{value_is}
use Rattle.cdf_definition.proofs.Lemmas.{differ}
use Rattle.cdf_definition.proofs.Laws.{is_kept}
use Rattle.cdf_definition.proofs.Laws.{report_proper, listed_proper}

-- what nests no deeper than what can be read is read back
reads_back : (n : ℕ) (d : Data) → n ≤ max_depth → IsProper n d → read (compact_text d) ≡ Some d
reads_back n d h p = read-proper d (proper_deeper n max_depth d h p)

-- ---- entries

abbrev id_entry : Entry
id_entry = required_member (codes "@id") (One leaf.Name)

abbrev cvrs_entry : Entry
cvrs_entry = optional_member (codes "CVR") (Array (leaf.Object group.Cvrs) 0 any key.Free)

abbrev devices_entry : Entry
devices_entry = required_member (codes "ReportingDevice")
    (Array (leaf.Object group.ReportingDevices) 0 any key.Id)

abbrev snapshots_entry : Entry
snapshots_entry =
    required_member (codes "CVRSnapshot") (Array (leaf.Object group.Snapshots) 1 any key.Id)

abbrev device_entry : Entry
device_entry = required_member (codes "CreatingDeviceId") (One leaf.Name)

abbrev unique_entry : Entry
unique_entry = required_member (codes "UniqueId") (One leaf.Name)

device_form : (d e : Data) → HasForm (One (leaf.Object group.Reports)) d
    → Contains (array_at (codes "ReportingDevice") d) e
    → HasForm (One (leaf.Object group.ReportingDevices)) e
device_form d e f a = items_have_form (entry_named group.Reports devices_entry d (refl, tt) f) e a

cvr_form : (d e : Data) → HasForm (One (leaf.Object group.Reports)) d
    → Contains (array_at (codes "CVR") d) e
    → HasForm (One (leaf.Object group.Cvrs)) e
cvr_form d e f a = items_have_form (entry_named group.Reports cvrs_entry d (refl, tt) f) e a

snapshot_form : (d e : Data) → HasForm (One (leaf.Object group.Cvrs)) d
    → Contains (array_at (codes "CVRSnapshot") d) e
    → HasForm (One (leaf.Object group.Snapshots)) e
snapshot_form d e f a = items_have_form (entry_named group.Cvrs snapshots_entry d (refl, tt) f) e a

-- ---- headers

-- the members of a header are those of the CVR but for two
header_is : (ms : Members) → MembersAreWell ms → IsHeaderOf (object ms) (header_of (object ms))
header_is ms well = record {
  others = λ name kept.
      others_stay name (codes "CurrentSnapshotId") (without (codes "CVRSnapshot") ms) kept.1
      ∙ others_stay name (codes "CVRSnapshot") ms kept.0;
  no_snapshots =
      others_stay (codes "CVRSnapshot") (codes "CurrentSnapshotId")
      (without (codes "CVRSnapshot") ms)
      (differ (codes "CVRSnapshot") (codes "CurrentSnapshotId") refl)
      ∙ gone (codes "CVRSnapshot") ms well;
  no_current =
      gone (codes "CurrentSnapshotId") (without (codes "CVRSnapshot") ms)
      (without_well (codes "CVRSnapshot") ms well);
}

header_proper : (n : ℕ) (ms : Members) → IsProper n (object ms) → IsProper n (header_of (object ms))
header_proper n ms h =
    without_proper n (codes "CurrentSnapshotId") (without (codes "CVRSnapshot") ms)
    (without_proper n (codes "CVRSnapshot") ms h)

module _ (d h : Data) (f : HasForm (One (leaf.Object group.Cvrs)) d) (of : IsHeaderOf d h) where
  cvr_entry : (r : Entry) → IsEntry (table class.Cvr) r → HasEntry r.required r.name r.kind d
  cvr_entry r i =
      let c = has_class f in
      let same : c.its ≡ class.Cvr =
      class_of_group (λ x. x ≡ class.Cvr) group.Cvrs d c.its (refl, tt) c.its_is in
      c.entry r (subst (λ x. IsEntry (table x) r) (sym same) i)

  pub header_form : HasHeaderForm h
  header_form = record {
    class_is =
        ap (λ o. option_and_then (find_class (classes_of group.Cvrs)) (option_and_then as_str o))
        (of.others (codes "@type") (is_kept (codes "@type") refl refl))
        ∙ only_class group.Cvrs class.Cvr d (refl, tt) f;
    needed = λ r i kept must. subst IsSome (sym (of.others r.name kept)) ((cvr_entry r i).there must);
    member = λ r e i kept at. (cvr_entry r i).part e (sym (of.others r.name kept) ∙ at);
    no_snapshots = of.no_snapshots;
    no_current = of.no_current;
  }

  pub header_device : get (codes "CreatingDeviceId") h
      ≡ Some (string (text_at (codes "CreatingDeviceId") d))
  header_device =
      of.others (codes "CreatingDeviceId") (is_kept (codes "CreatingDeviceId") refl refl)
      ∙ must_be_text (entry_named group.Cvrs device_entry d (refl, tt) f) tt

  pub header_unique : get (codes "UniqueId") h ≡ Some (string (text_at (codes "UniqueId") d))
  header_unique =
      of.others (codes "UniqueId") (is_kept (codes "UniqueId") refl refl)
      ∙ must_be_text (entry_named group.Cvrs unique_entry d (refl, tt) f) tt

-- what is to hold of a header, told of its CVR
abbrev Stands : Scope → Data → Type 0
Stands scope c =
    HeaderStands scope (text_at (codes "CreatingDeviceId") c) (text_at (codes "UniqueId") c)
    (header_of c)
    × (read (compact_text (header_of c)) ≡ Some (header_of c))

object_stands : (a b : Scope) → Wider a b → (ms : Members) → IsProper 125 (object ms)
    → HasForm (One (leaf.Object group.Cvrs)) (object ms) → in_cvr a (object ms) ≡ []
    → Stands b (object ms)
object_stands a b w ms p f e =
    let of = header_is ms p.well in
    let q = header_proper 125 ms p in (
      record {
        proper = q;
        form = header_form (object ms) (header_of (object ms)) f of;
        references = header_wider a b w (object ms) (header_of (object ms)) of e;
        device_is = header_device (object ms) (header_of (object ms)) f of;
        unique_is = header_unique (object ms) (header_of (object ms)) f of;
      },
      reads_back 125 (header_of (object ms)) (omega arith) q,
    )

cvr_stands : (a b : Scope) → Wider a b → (c : Data) → IsProper 125 c
    → HasForm (One (leaf.Object group.Cvrs)) c → in_cvr a c ≡ [] → Stands b c
cvr_stands a b w c p f e =
    let o = is_object group.Cvrs c f in
    subst (Stands b) (sym o.1)
    (object_stands a b w o.0 (subst (IsProper 125) o.1 p)
    (subst (HasForm (One (leaf.Object group.Cvrs))) o.1 f)
    (subst (λ x. in_cvr a x ≡ []) o.1 e))

-- ---- reports

-- a report that was read
module _ (bytes : List ℕ) (d : Data) (is : value_of bytes ≡ Some d) (r : IsReport d) where
  device_stands : (e : Data) → Contains (array_at (codes "ReportingDevice") d) e
      → DeviceStands (id_of e) e × (read (compact_text e) ≡ Some e)
  device_stands e a =
      let p = listed_proper 125 (codes "ReportingDevice") d e a (report_proper bytes d is r) in
      let f = device_form d e r.form a in (
        record {
          proper = p;
          form = f;
          id_is = must_be_text (entry_named group.ReportingDevices id_entry e (refl, tt) f) tt;
        },
        reads_back 125 e (omega arith) p,
      )

  cvr_proper : (c : Data) → Contains (array_at (codes "CVR") d) c → IsProper 125 c
  cvr_proper c a = listed_proper 125 (codes "CVR") d c a (report_proper bytes d is r)

  -- given that where each reference names something no path is missing
  cvr_refers : ReferencesLaw → (c : Data) → Contains (array_at (codes "CVR") d) c
      → in_cvr (scope_of d) c ≡ []
  cvr_refers law c a =
      each_at (in_cvr (scope_of d)) (codes "CVR") d c
      (left_nil (each (in_cvr (scope_of d)) (codes "CVR") d) _ ((law d).1 r.references)) a

  header_stands : ReferencesLaw → (wide : Scope) → Wider (scope_of d) wide
      → (c : Data) → Contains (array_at (codes "CVR") d) c → Stands wide c
  header_stands law wide w c a =
      cvr_stands (scope_of d) wide w c (cvr_proper c a) (cvr_form d c r.form a) (cvr_refers law c a)

  snapshot_stands : ReferencesLaw → (wide : Scope) → Wider (scope_of d) wide
      → (c s : Data) → Contains (array_at (codes "CVR") d) c
      → Contains (array_at (codes "CVRSnapshot") c) s
      → SnapshotStands wide (id_of s) s × (read (compact_text s) ≡ Some s)
  snapshot_stands law wide w c s a b =
      let p = listed_proper 123 (codes "CVRSnapshot") c s b (cvr_proper c a) in
      let f = snapshot_form c s (cvr_form d c r.form a) b in
      let e = each_at (in_snapshot (scope_of d)) (codes "CVRSnapshot") c s
      (cvr_parts (scope_of d) c (cvr_refers law c a)).snapshots b in (
        record {
          proper = p;
          form = f;
          references = snapshot_wider (scope_of d) wide w.contests s e;
          id_is = must_be_text (entry_named group.Snapshots id_entry s (refl, tt) f) tt;
        },
        reads_back 123 s (omega arith) p,
      )

-- ---- accepted files

pub devices_stand : DevicesStandLaw
devices_stand frame bytes e v =
    subst (λ x. Contains (array_at (codes "ReportingDevice") x) e
    → DeviceStands (id_of e) e × (read (compact_text e) ≡ Some e))
    (sym (value_is bytes v.0 v.1.1)) (device_stands bytes v.0 v.1.1 v.2 e)

-- the scope of an accepted report, and that of the definition with its devices
valid_wider : SameElectionLaw → (frame : Frame) (bytes : List ℕ) → IsFrame frame
    → (v : Valid frame bytes)
    → Wider (scope_of v.0) (scope_in frame (ids_at (codes "ReportingDevice") v.0))
valid_wider law frame bytes f v =
    agreed_wider frame v.0 v.3
    (sym (law frame bytes f v ∙ ap (λ x.
    map contest_of (array_at (codes "Contest") (the_election x))) (value_is bytes v.0 v.1.1)))

pub headers_stand : ReferencesLaw → SameElectionLaw → HeadersStandLaw
headers_stand refer same frame bytes c f v =
    subst (λ x. Contains (array_at (codes "CVR") x) c
    → Stands (scope_in frame (ids_at (codes "ReportingDevice") x)) c)
    (sym (value_is bytes v.0 v.1.1))
    (header_stands bytes v.0 v.1.1 v.2 refer (scope_in frame (ids_at (codes "ReportingDevice") v.0))
    (valid_wider same frame bytes f v) c)

pub snapshots_stand : ReferencesLaw → SameElectionLaw → SnapshotsStandLaw
snapshots_stand refer same frame bytes c s f v =
    subst (λ x. Contains (array_at (codes "CVR") x) c
    → Contains (array_at (codes "CVRSnapshot") c) s
    → SnapshotStands (scope_in frame (ids_at (codes "ReportingDevice") x)) (id_of s) s
    × (read (compact_text s) ≡ Some s))
    (sym (value_is bytes v.0 v.1.1))
    (snapshot_stands bytes v.0 v.1.1 v.2 refer
    (scope_in frame (ids_at (codes "ReportingDevice") v.0)) (valid_wider same frame bytes f v) c
    s)

-- ---- more devices

-- the same definition, and devices that are among more
pub more_devices : (frame : Frame) (xs ys : Texts) → Includes xs ys
    → Wider (scope_in frame xs) (scope_in frame ys)
more_devices frame xs ys h = record {
  elections = λ s e. e;
  units = λ s e. e;
  parties = λ s e. e;
  devices = h;
  contests = refl;
}

-- what stands still does where more can be named
pub header_stays : (a b : Scope) → Wider a b → (device unique : List ℕ) (d : Data)
    → HeaderStands a device unique d → HeaderStands b device unique d
header_stays a b w device unique d h = record {
  proper = h.proper;
  form = h.form;
  references = header_wider a b w d d (record {
    others = λ name kept. refl;
    no_snapshots = h.form.no_snapshots;
    no_current = h.form.no_current;
  }) h.references;
  device_is = h.device_is;
  unique_is = h.unique_is;
}

pub snapshot_stays : (a b : Scope) → Wider a b → (id : List ℕ) (d : Data) → SnapshotStands a id d
    → SnapshotStands b id d
snapshot_stays a b w id d h = record {
  proper = h.proper;
  form = h.form;
  references = snapshot_wider a b w.contests d h.references;
  id_is = h.id_is;
}
