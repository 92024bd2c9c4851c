-- A volume's text, from the texts that are kept.
use Rattle.std.proofs.Common.{◌≡◌, ℕ, ◌<◌, List, ◌++◌, map, length, Bool, true, false, Some, None}
use Rattle.std.proofs.Common.{Contains, unwrap_or, codes, refl, sym, ap, ◌∙◌, subst, append_assoc}
use Rattle.std.proofs.Math.Logic.{∥∥₁_elim}
use Rattle.std.proofs.Math.Nat.{ℕ_set}
use mathlib.Core.List.{is_set}
use Rattle.std.specs.List.{filter}
use Rattle.std.specs.FinSet.{contains, items}
use Rattle.std.specs.Str.{is_utf8}
use Rattle.std.proofs.lemmas.Slice.Eq.{bytes_eq-Decides}
use Rattle.json.specs.Print.{quoted}
use Rattle.serde_json.specs.Data.{Data, null}
use Rattle.serde_json.specs.Read.{read}
use Rattle.serde_json.specs.View.{items_of}
use Rattle.serde_json.specs.Written.{compact_text, has_float}
use Rattle.cdf_parts.specs.Parts.{array_at}
use Rattle.cdf_form.specs.Reading.{value_of}
use Rattle.cdf_parts.proofs.Laws.{part_reads_back, listed_part}
use Rattle.cdf_definition.specs.Frame.{Frame}
use Rattle.cdf_check.specs.Laws.{IsListOf}
use Rattle.cdf_definition.specs.Named.{IdText, id_and_text, texts_of}
use Rattle.cdf_definition.specs.Sound.{IsFrame}
use Rattle.cdf_check.proofs.Laws.{lists}
use Rattle.cdf_definition.proofs.Laws.{sound}
use Rattle.cvr_fact_types.specs.Facts.{Fact, Device, Header, Snapshot, Facts}
use Rattle.cvr_facts.specs.Choosing.{data_of}
use Rattle.cvr_facts.specs.Stands.{Stands}
use Rattle.cvr_facts.proofs.Laws.{text_total, text_exact, contains_iff}
use Rattle.cvr_facts.proofs.Lemmas.{in_map, from_map, from-filter_map}
use Rattle.cvr_office.specs.declared.conflict.ConflictName.TheVariants as name
use Rattle.cvr_office.specs.Names.{records, devices, device_in, is_named, body_of}
use Rattle.cvr_office.specs.Readers.{device_list}
use Rattle.cvr_office.specs.CanHold.{CanHold, content_scope}
use Rattle.cvr_office.proofs.Lemmas.{from_ordered, in_ordered, map-map, from_filter, in_filter}
use Rattle.cvr_report.specs.Record.{comma_list, item_texts}
use Rattle.cvr_report.specs.Writes.{list_text}
use Rattle.cvr_report.specs.Page.{Shown, shown_body, shown_record, stands, page}
use Rattle.cvr_report.specs.Volume.{values_of, record_data, records_data, cover_of, volume}
use Rattle.cvr_report.specs.Pieces.{head_text, middle_text, end_text, party_text, record_texts}
use Rattle.cvr_report.specs.Pieces.{device_texts}
use Rattle.cvr_report.proofs.Kept.{unreversed, some_listed, shown_listed, texts_back}
use Rattle.cvr_report.proofs.Report.{volume_text, records_text}

-- what a text spells has that text
abbrev IsSpelled : List ℕ → Type 0
IsSpelled t = compact_text (data_of t) ≡ t

-- ---- the texts of a definition

read_of : (b : Bool) (bytes : List ℕ) (d : Data) → is_utf8 bytes ≡ b → value_of bytes ≡ Some d
    → read bytes ≡ Some d
read_of true bytes d u e = sym (rw u refl) ∙ e
read_of false bytes d u e = let none : value_of bytes ≡ None = rw u refl in
    absurd (let same : Some d ≡ None = sym e ∙ none in Prim.cc same)

listed_spelled : (bytes : List ℕ) (d : Data) → read bytes ≡ Some d → has_float d ≡ false
    → (name : List ℕ) (entries : List IdText) → IsListOf entries name d → (t : List ℕ)
    → Contains (texts_of entries) t → IsSpelled t
listed_spelled bytes d is whole name entries list t at =
    let e = from_map (λ (e : IdText). e.1) t entries at in
    let x = from_map id_and_text e.0 (array_at name d) ((list.members e.0).0 e.1) in
    let text : compact_text x.0 ≡ t = ap (λ (e : IdText). e.1) x.2 ∙ e.2 in
    let back = part_reads_back bytes d x.0 is whole (listed_part name d x.0 x.1) in
    subst IsSpelled text (ap (λ o. compact_text (unwrap_or o null)) back)

module _ (frame : Frame) (known : IsFrame frame) where
  pub elections_spelled : (t : List ℕ) → Contains (texts_of frame.elections) t → IsSpelled t
  elections_spelled t at = ∥∥₁_elim known (hlevel (ℕ_set, is_set)) (λ q.
      let report = (sound q.0).0 q.2 in
      listed_spelled q.1.0 q.0 (read_of (is_utf8 q.1.0) q.1.0 q.0 refl q.1.1.1) report.whole
      (codes "Election") _ (lists q.0 report).0 t
      (subst (λ (f : Frame). Contains (texts_of f.elections) t) q.3 at))

  pub units_spelled : (t : List ℕ) → Contains (texts_of frame.units) t → IsSpelled t
  units_spelled t at = ∥∥₁_elim known (hlevel (ℕ_set, is_set)) (λ q.
      let report = (sound q.0).0 q.2 in
      listed_spelled q.1.0 q.0 (read_of (is_utf8 q.1.0) q.1.0 q.0 refl q.1.1.1) report.whole
      (codes "GpUnit") _ (lists q.0 report).1 t
      (subst (λ (f : Frame). Contains (texts_of f.units) t) q.3 at))

  pub parties_spelled : (t : List ℕ) → Contains (texts_of frame.parties) t → IsSpelled t
  parties_spelled t at = ∥∥₁_elim known (hlevel (ℕ_set, is_set)) (λ q.
      let report = (sound q.0).0 q.2 in
      listed_spelled q.1.0 q.0 (read_of (is_utf8 q.1.0) q.1.0 q.0 refl q.1.1.1) report.whole
      (codes "Party") _ (lists q.0 report).2 t
      (subst (λ (f : Frame). Contains (texts_of f.parties) t) q.3 at))

-- ---- the bodies of devices

module _ (frame : Frame) (s : Facts) (can_hold : CanHold frame s) where
  device_spelled : (id b : List ℕ) (f : Fact) → contains s f ≡ true
      → is_named (name.Device id) f ≡ true → body_of f ≡ b → IsSpelled b
  device_spelled id b (Device i c) at is e =
      let stands : Stands (content_scope frame s) (Device i c) = can_hold.stand (Device i c) at in
      subst IsSpelled e (ap (λ o. compact_text (unwrap_or o null)) stands.1.1 ∙ sym stands.1.0)
  device_spelled id b (Header d u c) at is e = absurd (Prim.cc is)
  device_spelled id b (Snapshot d u i c) at is e = absurd (Prim.cc is)

  body_spelled : (id b : List ℕ) → Contains (device_list s id) b → IsSpelled b
  body_spelled id b at =
      let f = from_map body_of b (filter (is_named (name.Device id)) (items s))
      (from_ordered text_total text_exact _ b (unreversed _ b at)) in
      let g = from_filter (is_named (name.Device id)) (items s) f.0 f.1 in
      device_spelled id b f.0 ((contains_iff s f.0).1 g.0) g.1 f.2

  named_by : (id : List ℕ) (f : Fact) → device_in f ≡ Some id → is_named (name.Device id) f ≡ true
  named_by id (Device i c) e = (bytes_eq-Decides id i).1 (let same : id ≡ i = Prim.cc e in same)
  named_by id (Header d u c) e = absurd (Prim.cc e)
  named_by id (Snapshot d u i c) e = absurd (Prim.cc e)

  device_shows : (id : List ℕ) → Contains (devices s) id → 0 < length (device_list s id)
  device_shows id at =
      let f = from-filter_map device_in (items s) id (from_ordered text_total text_exact _ id at) in
      some_listed _ (body_of f.0) (in_ordered text_total text_exact _ (body_of f.0)
      (in_map body_of f.0 _ (in_filter (is_named (name.Device id)) (items s) f.0 f.1
      (named_by id f.0 f.2))))

  pub devices_spelled : (i : ℕ) → 0 < i → (b : List ℕ) → Contains (device_texts s i (devices s)) b
      → IsSpelled b
  devices_spelled i q b at =
      let id = from_map (λ id. shown_body i (device_list s id)) b (devices s) at in
      body_spelled id.0 b (subst (Contains (device_list s id.0)) id.2
      (shown_listed i (device_list s id.0) q (device_shows id.0 id.1)))

-- ---- the whole

regroup : (a b c d e f g h i j k m : List ℕ)
    → a ++ (b ++ (c ++ (d ++ (e ++ (f ++ (g ++ (h ++ (i ++ (j ++ (k ++ m))))))))))
    ≡ (a ++ (b ++ (c ++ (d ++ (e ++ (f ++ (g ++ (h ++ (i ++ (j ++ k)))))))))) ++ m
regroup a b c d e f g h i j k m = simp append_assoc

pub whole_text : (frame : Frame) (date device : List ℕ) (s : Facts) (i : ℕ) → CanHold frame s → 0 < i
    → volume frame (record { date = date; device = device }) s i
    ≡ head_text ++ (list_text false (record_texts s i (records s))
    ++ (middle_text frame date device
    ++ (comma_list false (device_texts s i (devices s)) ++ end_text)))
whole_text frame date device s i can_hold q =
    let p = page s i in
    let elections = texts_back (texts_of frame.elections) (elections_spelled frame can_hold.sound) in
    let units = texts_back (texts_of frame.units) (units_spelled frame can_hold.sound) in
    let parties = texts_back (texts_of frame.parties) (parties_spelled frame can_hold.sound) in
    let bodies : map (λ (s : Shown). s.body) p.devices
    ≡ device_texts s i (devices s) = sym
    (map-map (λ id. record { id = id; body = shown_body i (device_list s id) })
    (λ (s : Shown). s.body) (devices s)) in
    let devices_are : item_texts (values_of (map (λ (s : Shown). s.body) p.devices))
    ≡ device_texts s i (devices s) = ap (λ bs. item_texts (values_of bs)) bodies
    ∙ texts_back (device_texts s i (devices s)) (devices_spelled frame s can_hold i q) in
    let texts : item_texts (records_data p) ≡ record_texts s i (records s) =
    ap (λ ds. item_texts (items_of ds))
    (sym (map-map (shown_record s i) record_data (filter (stands s i) (records s))))
    ∙ records_text s i (records s) in
    volume_text (cover_of frame date device p) (records_data p)
    ∙ ((λ n. head_text ++ (list_text false (texts n) ++
    (codes ",\"Election\":[" ++ (comma_list false (elections n)
    ++ (codes "],\"GeneratedDate\":" ++ (quoted date
    ++ (codes ",\"GpUnit\":[" ++ (comma_list false (units n)
    ++ (codes "]" ++ (party_text (parties n)
    ++ (codes ",\"ReportGeneratingDeviceIds\":["
    ++ (quoted device ++ (codes "],\"ReportType\":[\"aggregated\"],\"ReportingDevice\":["
    ++ (comma_list false (devices_are n) ++ end_text))))))))))))))
    ∙ ap (λ t. head_text ++ (list_text false (record_texts s i (records s)) ++ t))
    (regroup (codes ",\"Election\":[") (comma_list false (texts_of frame.elections))
    (codes "],\"GeneratedDate\":") (quoted date) (codes ",\"GpUnit\":[")
    (comma_list false (texts_of frame.units)) (codes "]")
    (party_text (texts_of frame.parties)) (codes ",\"ReportGeneratingDeviceIds\":[") (quoted device)
    (codes "],\"ReportType\":[\"aggregated\"],\"ReportingDevice\":[")
    (comma_list false (device_texts s i (devices s)) ++ end_text)))
