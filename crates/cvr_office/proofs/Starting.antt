-- What a new office keeps: its facts are devices of a file that is valid for its definition.
use Rattle.std.proofs.Common.{◌≡◌, ℕ, List, map, true, Contains, IsUtf8, codes, refl, sym, ap}
use Rattle.std.proofs.Common.{subst}
use Rattle.std.specs.Prelude.{unwrap_or}
use Rattle.std.specs.FinSet.{contains}
use Rattle.std.specs.List.{AllByRecursion}
use Rattle.std.proofs.Math.Logic.{∥∥₁_map}
use Rattle.std.proofs.lemmas.Str.{IsUtf8-had}
use Rattle.serde_json.specs.Data.{Data, null}
use Rattle.cdf_definition.specs.Acceptance.{IsReport, Valid, value_in}
use Rattle.cdf_definition.specs.Frame.{Frame, frame_of}
use Rattle.cdf_definition.specs.Named.{IdText, id_and_text}
use Rattle.cdf_definition.specs.Sound.{IsFrame, WasRead}
use Rattle.cdf_check.proofs.Laws.{lists, devices_stand, bodies_utf8}
use Rattle.cdf_definition.proofs.Laws.{sound}
use Rattle.cvr_fact_types.specs.Facts.{Fact, Device, fact_total, fact_exact, texts}
use Rattle.cvr_facts.specs.Reports.{facts, device_fact}
use Rattle.cvr_facts.specs.Stands.{Stands, IsOfRecord}
use Rattle.cvr_facts.proofs.Lemmas.{from_map, from_set}
use Rattle.cvr_facts.specs.Sources.{devices_in}
use Rattle.cvr_facts.proofs.Laws.{device_listed, fact_held}
use Rattle.cvr_office.specs.CanHold.{starting_content, content_scope}
use Rattle.cvr_office.specs.Laws.{StartLaw}
use Rattle.cvr_office.proofs.OwnFrame.{own_valid, entry_source}
use Rattle.cvr_office.proofs.ToldBodies.{IsDeviceBody, stated_device}

-- ---- where a definition's device is from

-- it is a device of a file that is valid for the definition
abbrev pub DeviceSource : Frame → IdText → Type 0
DeviceSource frame e = (bytes : List ℕ) × Valid frame bytes
    × ((x : Data) × Contains (devices_in (value_in bytes)) x × (id_and_text x ≡ e))

report_source : (d : Data) (read : WasRead d) → IsReport d → (e : IdText)
    → Contains (frame_of d).devices e → DeviceSource (frame_of d) e
report_source d read r e a =
    let s = entry_source (codes "ReportingDevice") d (lists d r).3 e a in
    let is : value_in read.0 ≡ d = ap (λ o. unwrap_or o null) read.1.1 in (
      read.0,
      own_valid read.0 d read.1 r,
      (s.0, subst (λ v. Contains (devices_in v) s.0) (sym is) s.1, s.2),
    )

pub device_source : (frame : Frame) → IsFrame frame → (e : IdText) → Contains frame.devices e
    → ∥ DeviceSource frame e ∥₁
device_source frame is e a =
    ∥∥₁_map is (λ q. subst (λ f. Contains f.devices e → DeviceSource f e) (sym q.3)
    (report_source q.0 q.1 ((sound q.0).0 q.2) e) a)

-- ---- what such a device keeps

module _ (frame : Frame) (e : IdText) (s : DeviceSource frame e) where
  source_held : contains (facts s.0) (Device e.0 e.1) ≡ true
  source_held =
      subst (λ x. contains (facts s.0) (Device x.0 x.1) ≡ true) s.2.2
      (fact_held s.0 (device_fact s.2.0) (device_listed (value_in s.0) s.2.0 s.2.1))

  source_body : IsDeviceBody e.0 e.1
  source_body =
      let h = devices_stand frame s.0 s.2.0 s.1 s.2.1 in
      subst (λ x. IsDeviceBody x.0 x.1) s.2.2 (s.2.0, (refl, h.1), h.0)

  source_id : IsUtf8 e.0
  source_id = subst (λ x. IsUtf8 x.0) s.2.2 ((bodies_utf8 frame s.0 s.1).devices s.2.0 s.2.1).id

  source_text : IsUtf8 e.1
  source_text = subst (λ x. IsUtf8 x.1) s.2.2 ((bodies_utf8 frame s.0 s.1).devices s.2.0 s.2.1).body

-- ---- new offices

-- what holds of the definition's devices holds of the facts of a new office
pub of_starting : (frame : Frame) (P : Fact → Type 0)
    → ((e : IdText) → Contains frame.devices e → P (Device e.0 e.1))
    → (f : Fact) → contains (starting_content frame) f ≡ true → P f
of_starting frame P each f h =
    let m = from_map (λ e. Device e.0 e.1) f frame.devices
    (from_set fact_total fact_exact (map (λ e. Device e.0 e.1) frame.devices) f h) in
    subst P m.2 (each m.0 m.1)

pub start_keeps : StartLaw
start_keeps frame is = record {
  sound = is;
  given = of_starting frame (λ f. ∥ ((bytes : List ℕ) × Valid frame bytes
      × (contains (facts bytes) f ≡ true)) ∥₁)
      (λ e a. ∥∥₁_map (device_source frame is e a) (λ s. (s.0, s.1, source_held frame e s)));
  stand = of_starting frame (Stands (content_scope frame (starting_content frame)))
      (λ e a. stated_device e.0 e.1 (∥∥₁_map (device_source frame is e a) (source_body frame e)));
  whole = of_starting frame (IsOfRecord (starting_content frame)) (λ e a. tt);
  started = λ f h. h;
  utf8 = of_starting frame (λ f. AllByRecursion IsUtf8 (texts f)) (λ e a. (
    IsUtf8-had e.0 (∥∥₁_map (device_source frame is e a) (source_id frame e)),
    (IsUtf8-had e.1 (∥∥₁_map (device_source frame is e a) (source_text frame e)), tt),
  ));
}
