-- What an office keeps of its facts holds after each import and each join.
use Rattle.std.proofs.Common.{◌≡◌, ℕ, List, true, Contains, IsUtf8, codes, sym, subst}
use Rattle.std.specs.FinSet.{contains, union}
use Rattle.std.specs.List.{AllByRecursion}
use Rattle.std.proofs.Math.Logic.{∥∥₁_map}
use Rattle.serde_json.specs.Written.{compact_text}
use Rattle.cdf_parts.specs.Parts.{ids_at, id_of}
use Rattle.cdf_definition.specs.Acceptance.{Valid, value_in}
use Rattle.cdf_definition.specs.Frame.{Frame, scope_in}
use Rattle.cdf_check.specs.Same.{AreEqualButDevices}
use Rattle.cdf_definition.specs.Sound.{IsFrame}
use Rattle.cdf_check.proofs.Laws.{same_definitions, more_devices, bodies_utf8}
use Rattle.cdf_check.specs.Wider.{Includes}
use Rattle.cvr_fact_types.specs.Facts.{Fact, Facts, texts}
use Rattle.cvr_facts.specs.Reports.{facts, device_fact}
use Rattle.cvr_facts.specs.Stands.{Stands, IsOfRecord}
use Rattle.cvr_facts.proofs.Lemmas.{from_map}
use Rattle.cvr_facts.specs.Sources.{devices_in, Source, of_device, of_header, of_snapshot}
use Rattle.cvr_facts.proofs.Laws.{device_listed, fact_source, fact_held}
use Rattle.cvr_office.proofs.Standing.{facts_stand}
use Rattle.cvr_office.proofs.FileRecords.{records_whole}
use Rattle.cvr_office.specs.CanHold.{CanHold, content_scope}
use Rattle.cvr_office.specs.Laws.{ImportLaw, JoinLaw}
use Rattle.cvr_office.specs.Under.{device_ids}
use Rattle.cvr_office.proofs.Included.{IsWithin, of_union, left_within, right_within, includes}
use Rattle.cvr_office.proofs.Included.{device_known, devices_within, stands_wider, whole_wider}
use Rattle.cvr_office.proofs.SameFrames.{agrees_alike, scope_alike}

-- ---- facts that can be taken in

-- the fact is one of some file that is valid for the definition
abbrev pub IsGiven : Frame → Fact → Type 0
IsGiven frame f = ∥ ((bytes : List ℕ) × Valid frame bytes × (contains (facts bytes) f ≡ true)) ∥₁

abbrev pub TextsAreUtf8 : Fact → Type 0
TextsAreUtf8 f = AllByRecursion IsUtf8 (texts f)

-- what is to hold of facts that an office takes in
pub record CanJoin (frame : Frame) (t : Facts) : Type 0 where
  pub given : (f : Fact) → contains t f ≡ true → IsGiven frame f
  pub stand : (f : Fact) → contains t f ≡ true → Stands (content_scope frame t) f
  pub whole : (f : Fact) → contains t f ≡ true → IsOfRecord t f
  pub utf8 : (f : Fact) → contains t f ≡ true → TextsAreUtf8 f

stands_within : (frame : Frame) (s t : Facts) → IsWithin s t → (f : Fact)
    → Stands (content_scope frame s) f → Stands (content_scope frame t) f
stands_within frame s t w f h =
    stands_wider (content_scope frame s) (content_scope frame t)
    (more_devices frame (device_ids s) (device_ids t) (devices_within s t w)) f h

pub union_keeps : (frame : Frame) (s t : Facts) → CanHold frame s → CanJoin frame t
    → CanHold frame (union s t)
union_keeps frame s t k j =
    let u = union s t in
    let l = left_within s t in
    let r = right_within s t in
    record {
      sound = k.sound;
      given = of_union s t (IsGiven frame) k.given j.given;
      stand = of_union s t (Stands (content_scope frame u))
          (λ f h. stands_within frame s u l f (k.stand f h))
          (λ f h. stands_within frame t u r f (j.stand f h));
      whole = of_union s t (IsOfRecord u) (λ f h. whole_wider s u l f (k.whole f h))
          (λ f h. whole_wider t u r f (j.whole f h));
      started = λ f h. l f (k.started f h);
      utf8 = of_union s t TextsAreUtf8 k.utf8 j.utf8;
    }

-- ---- imports

source_utf8 : (frame : Frame) (bytes : List ℕ) (f : Fact) → Valid frame bytes
    → Source (value_in bytes) f → TextsAreUtf8 f
source_utf8 frame bytes _ valid (of_device e a) =
    let u = (bodies_utf8 frame bytes valid).devices e a in
    (u.id, (u.body, tt))
source_utf8 frame bytes _ valid (of_header c a) =
    let u = (bodies_utf8 frame bytes valid).headers c a in
    (u.device, (u.unique, (u.body, tt)))
source_utf8 frame bytes _ valid (of_snapshot c s a b) =
    let h = (bodies_utf8 frame bytes valid).headers c a in
    let u = (bodies_utf8 frame bytes valid).snapshots c s a b in
    (h.device, (h.unique, (u.id, (u.body, tt))))

-- the ids of a file's devices are those of its facts
file_devices : (bytes : List ℕ) → Includes (ids_at (codes "ReportingDevice") (value_in bytes))
    (device_ids (facts bytes))
file_devices bytes =
    includes (ids_at (codes "ReportingDevice") (value_in bytes)) (device_ids (facts bytes)) (λ id a.
    let m = from_map id_of id (devices_in (value_in bytes)) a in
    subst (Contains (device_ids (facts bytes))) m.2
    (device_known (facts bytes) (id_of m.0) (compact_text m.0)
    (fact_held bytes (device_fact m.0) (device_listed (value_in bytes) m.0 m.1))))

pub file_can_join : (frame : Frame) (bytes : List ℕ) → IsFrame frame → Valid frame bytes
    → CanJoin frame (facts bytes)
file_can_join frame bytes is valid =
    let ids = ids_at (codes "ReportingDevice") (value_in bytes) in
    record {
      given = λ f h. ∣ (bytes, valid, h) ∣₁;
      stand = λ f h.
          stands_wider (scope_in frame ids) (content_scope frame (facts bytes))
          (more_devices frame ids (device_ids (facts bytes)) (file_devices bytes)) f
          (facts_stand frame bytes f is valid h);
      whole = λ f h. records_whole frame bytes f valid h;
      utf8 = λ f h. source_utf8 frame bytes f valid (fact_source bytes f h);
    }

pub import_keeps : ImportLaw
import_keeps frame s bytes valid k =
    union_keeps frame s (facts bytes) k (file_can_join frame bytes k.sound valid)

-- ---- joins

pub other_can_join : (frame other : Frame) (t : Facts) → AreEqualButDevices frame other
    → CanHold other t → CanJoin frame t
other_can_join frame other t a k = record {
  given = λ f h. ∥∥₁_map (k.given f h) (λ q.
      (q.0, (q.1.0, q.1.1, q.1.2, agrees_alike frame other a q.1.0 q.1.3), q.2));
  stand = λ f h. subst (λ scope. Stands scope f) (sym (scope_alike frame other a (device_ids t)))
      (k.stand f h);
  whole = k.whole;
  utf8 = k.utf8;
}

pub join_keeps : JoinLaw
join_keeps frame other s t same k j = union_keeps frame s t k
    (other_can_join frame other t (same_definitions frame other k.sound j.sound same) j)
