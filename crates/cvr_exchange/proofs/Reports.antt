-- A volume is a report that its definition accepts.
use Rattle.std.proofs.Common.{◌≡◌, ◌<◌, ◌≤◌, ℕ, List, [], ◌∷◌, map, length, Contains, true, false}
use Rattle.std.proofs.Common.{Some, None, IsSome, codes, unwrap_or, refl, sym, ap, ◌∙◌}
use Rattle.std.proofs.Common.{subst, arith, true≢false}
use Rattle.std.specs.Prelude.{option_and_then}
use Rattle.std.specs.List.{filter}
use Rattle.std.specs.FinSet.{contains}
use Rattle.std.proofs.lemmas.Map.Views.{Contains-from_any}
use Rattle.std.proofs.lemmas.Slice.Eq.{bytes_eq-Decides}
use Rattle.std.proofs.lemmas.Option.{same_Some}
use Rattle.serde_json.specs.Data.{Data, null, string, array, Items, no_items, item}
use Rattle.serde_json.specs.Events.{items_len}
use Rattle.serde_json.specs.Find.{get, as_str}
use Rattle.serde_json.specs.View.{items_of}
use Rattle.cdf_form.specs.declared.table.Class.TheVariants as class_of
use Rattle.cdf_form.specs.declared.table.Group.TheVariants as group
use Rattle.cdf_form.specs.declared.table.Listing.TheVariants as listing
use Rattle.cdf_form.specs.declared.table.Leaf.{Leaf}
use Rattle.cdf_form.specs.declared.table.Leaf.TheVariants as leaf
use Rattle.cdf_form.specs.declared.table.Key.TheVariants as key
use Rattle.cdf_form.specs.declared.table.Kind.TheVariants.{One, Array}
use Rattle.cdf_form.specs.Tables.{Entry, table, classes_of, required_member, optional_member}
use Rattle.cdf_form.specs.Tables.{any}
use Rattle.cdf_form.specs.Form.{class_in, find_class}
use Rattle.cdf_form.specs.HasForm.{HasForm, text, moment, listed, class}
use Rattle.cdf_parts.specs.PartOf.{IsPart, itself, of_member}
use Rattle.cdf_node.specs.Items.{list_of}
use Rattle.cdf_parts.specs.Parts.{array_at, ids_at, id_of, first_or_null}
use Rattle.cdf_parts.specs.Places.{contest_of}
use Rattle.cdf_form.specs.Reading.{value_of, max_file}
use Rattle.cdf_form.proofs.Laws.{items_have_form}
use Rattle.cdf_parts.proofs.Laws.{items_short, part_short, list_of-items_of, listed_part}
use Rattle.cdf_parts.proofs.Laws.{part_of_part}
use Rattle.cdf_definition.specs.Acceptance.{Valid, value_in}
use Rattle.cdf_definition.specs.Agreement.{Agrees}
use Rattle.cdf_definition.specs.Frame.{Frame}
use Rattle.cdf_definition.specs.Named.{IdText, ids_of}
use Rattle.cdf_definition.specs.References.{Scope, scope_of}
use Rattle.cdf_definition.specs.Resolves.{Resolves, CvrResolves, ElectionResolves}
use Rattle.cdf_definition.specs.Depths.{election_entry}
use Rattle.cdf_definition.proofs.Laws.{report_entry, one_election}
use Rattle.cvr_fact_types.specs.declared.name.RecordName.{RecordName}
use Rattle.cvr_fact_types.specs.Facts.{Device, Facts, fact_total, fact_exact}
use Rattle.cvr_facts.proofs.Lemmas.{in_map, from_map, in_set, only_one}
use Rattle.cvr_office.specs.CanHold.{CanHold}
use Rattle.cvr_office.specs.Names.{records, devices}
use Rattle.cvr_office.specs.Readers.{header_list}
use Rattle.cvr_office.proofs.Lemmas.{from_filter}
use Rattle.cvr_report.specs.Head.{Head}
use Rattle.cvr_report.specs.Page.{page, shown_body, shown_snapshots, stands, current_id}
use Rattle.cvr_report.specs.Page.{shown_record}
use Rattle.cvr_report.specs.Record.{snapshots_name}
use Rattle.cvr_report.specs.Volume.{members_in, record_data, volume_data, volume}
use Rattle.cvr_exchange.specs.Passing.{CanHead}
use Rattle.cvr_exchange.proofs.Arrays.{IsRising, objects_form, values_form}
use Rattle.cvr_exchange.proofs.Clean.{IsClean, clean_array, clean_value}
use Rattle.cvr_exchange.proofs.Definitions.{values, AreValuesOf, IsDefined}
use Rattle.cvr_exchange.proofs.Naming.{AreAmong, election_more}
use Rattle.cvr_exchange.proofs.Records.{AllEntries, all_entries, ◌▸◌, at_snapshots, list_in}
use Rattle.cvr_exchange.proofs.Shown.{of_device_id}
use Rattle.cvr_exchange.proofs.Standing.{here, device_values, device_ids_are, devices_rise}
use Rattle.cvr_exchange.proofs.Standing.{device_form, devices_clean, snapshot_values, record_value}
use Rattle.cvr_exchange.proofs.Standing.{record_refers, record_is_clean}
use Rattle.cvr_exchange.proofs.VolumeMembers.{unless_none, made_clean, at_class, at_cvrs}
use Rattle.cvr_exchange.proofs.VolumeMembers.{at_elections, at_date, at_units, at_notes}
use Rattle.cvr_exchange.proofs.VolumeMembers.{at_other_type, at_parties, at_generating}
use Rattle.cvr_exchange.proofs.VolumeMembers.{at_report_type, at_devices, at_version}
use Rattle.cdf_check.proofs.Lemmas.{items_len-items_of}

list_unless : (xs : Items) → list_in (unless_none xs) ≡ list_of xs
list_unless no_items = refl
list_unless (item d ds) = refl

-- the ids of objects of a definition are those of its entries
among_ids : (entries : List IdText) (name : List ℕ) (d : Data) → AreValuesOf entries name d
    → AreAmong (ids_at name d) (ids_of entries)
among_ids entries name d h n a =
    let x = from_map id_of n (array_at name d) a in
    subst (Contains (ids_of entries)) x.2
    (subst (λ ids. Contains ids (id_of x.0)) h.ids
    (in_map id_of x.0 (values entries) (h.all x.0 x.1)))

module _ (frame : Frame) (head : Head) (s : Facts) (i : ℕ) (can_hold : CanHold frame s)
    (can : CanHead frame head) (pos : 0 < i) (d : Data) (known : IsDefined frame d) where
  abbrev E : Items
  E = items_of (values frame.elections)

  abbrev U : Items
  U = items_of (values frame.units)

  abbrev P : Items
  P = items_of (values frame.parties)

  abbrev D : Items
  D = items_of (device_values frame s can_hold i pos)

  abbrev rs : List Data
  rs = map record_data (page s i).records

  abbrev R : Items
  R = items_of rs

  -- the volume as a value
  abbrev pub V : Data
  V = volume_data frame head.date head.device (page s i)

  -- ---- its arrays

  pub devices_list : array_at (codes "ReportingDevice") V ≡ device_values frame s can_hold i pos
  devices_list = ap list_in (at_devices E U head.date head.device D P R)
      ∙ list_of-items_of (device_values frame s can_hold i pos)

  pub cvrs_list : array_at (codes "CVR") V ≡ rs
  cvrs_list =
      ap list_in (at_cvrs E U head.date head.device D P R) ∙ (list_unless R ∙ list_of-items_of rs)

  elections_list : array_at (codes "Election") V ≡ values frame.elections
  elections_list = ap list_in (at_elections E U head.date head.device D P R)
      ∙ list_of-items_of (values frame.elections)

  units_list : array_at (codes "GpUnit") V ≡ values frame.units
  units_list =
      ap list_in (at_units E U head.date head.device D P R) ∙ list_of-items_of (values frame.units)

  parties_list : array_at (codes "Party") V ≡ values frame.parties
  parties_list = ap list_in (at_parties E U head.date head.device D P R)
      ∙ (list_unless P ∙ list_of-items_of (values frame.parties))

  generating_list : array_at (codes "ReportGeneratingDeviceIds") V ≡ string head.device ∷ []
  generating_list = ap list_in (at_generating E U head.date head.device D P R)

  -- which record a CVR of it is
  pub record_source : (c : Data) → Contains rs c
      → (k : RecordName) × Contains (records s) k × (stands s i k ≡ true)
      × (record_data (shown_record s i k) ≡ c)
  record_source c a =
      let p = from_map record_data c (page s i).records a in
      let k = from_map (shown_record s i) p.0 (filter (stands s i) (records s)) p.1 in
      let f = from_filter (stands s i) (records s) k.0 k.1 in
      (k.0, f.0, f.1, ap record_data k.2 ∙ p.2)

  -- ---- its device

  device_held : (b : List ℕ) × (contains s (Device head.device b) ≡ true)
  device_held =
      let e = from_map (λ (e : IdText). e.0) head.device frame.devices
      (Contains-from_any (λ x y. (bytes_eq-Decides x y).0) head.device (ids_of frame.devices)
      can.device) in
      let held = can_hold.started (Device e.0.0 e.0.1)
      (in_set fact_total fact_exact (map (λ (e : IdText). Device e.0 e.1) frame.devices)
      (Device e.0.0 e.0.1) (in_map (λ (e : IdText). Device e.0 e.1) e.0 frame.devices e.1)) in
      (e.0.1, subst (λ id. contains s (Device id e.0.1) ≡ true) e.2 held)

  device_listed : Contains (devices s) head.device
  device_listed = (of_device_id s head.device).1 device_held

  -- ---- its text

  records_clean : (c : Data) → Contains rs c → IsClean 125 c
  records_clean c a =
      let k = record_source c a in
      subst (IsClean 125) k.3 (record_is_clean frame s can_hold i pos k.0 k.1)

  volume_clean : IsClean 127 V
  volume_clean =
      made_clean E U head.date head.device D P R can.heading.text
      (can_hold.utf8 (Device head.device device_held.0) device_held.1).0
      (clean_array 125 (values frame.elections) known.elections.clean)
      (clean_array 125 (values frame.units) known.units.clean)
      (clean_array 125 (device_values frame s can_hold i pos) (devices_clean frame s can_hold i pos))
      (clean_array 125 (values frame.parties) known.parties.clean)
      (clean_array 125 rs records_clean)

  pub volume_value : value_of (volume frame head s i) ≡ Some V
  volume_value = clean_value V volume_clean

  pub volume_read : value_in (volume frame head s i) ≡ V
  volume_read = ap (λ o. unwrap_or o null) volume_value

  -- ---- its references

  abbrev its : Scope
  its = here frame s can_hold

  scope_is : scope_of V ≡ its
  scope_is =
      let elections = ap (map id_of) elections_list ∙ known.elections.ids in
      let units = ap (map id_of) units_list ∙ known.units.ids in
      let parties = ap (map id_of) parties_list ∙ known.parties.ids in
      let owned = ap (map id_of) devices_list ∙ device_ids_are frame s can_hold i pos in
      let contests = ap (λ es. map contest_of (array_at (codes "Contest") (first_or_null es)))
      (elections_list ∙ known.election) ∙ sym known.contests in
      λ j. record {
        elections = elections j;
        units = units j;
        parties = parties j;
        devices = owned j;
        contests = contests j;
      }

  volume_refers : Resolves V
  volume_refers = record {
    cvrs = λ c a.
        let k = record_source c (subst (λ xs. Contains xs c) cvrs_list a) in
        subst (λ sc. CvrResolves sc c) (sym scope_is)
        (subst (CvrResolves its) k.3 (record_refers frame s can_hold i pos k.0 k.1));
    elections = λ e a.
        let own = known.elections.each e (subst (λ xs. Contains xs e) elections_list a) in
        subst (λ sc. ElectionResolves sc e) (sym scope_is)
        (election_more (scope_of d) its (among_ids frame.units (codes "GpUnit") d known.units)
        (among_ids frame.parties (codes "Party") d known.parties) e
        (known.report.references.elections e own));
    devices = λ e n a is.
        let same : string head.device ≡ e =
        only_one (string head.device) e (subst (λ xs. Contains xs e) generating_list a) in
        let name : head.device ≡ n = same_Some head.device n (ap as_str same ∙ is) in
        subst (λ sc. Contains sc.devices n) (sym scope_is)
        (subst (Contains (devices s)) name device_listed);
  }

  volume_agrees : Agrees frame V
  volume_agrees = record {
    elections = λ e a. known.agrees.elections e
        (known.elections.each e (subst (λ xs. Contains xs e) elections_list a));
    units = λ e a. known.agrees.units e
        (known.units.each e (subst (λ xs. Contains xs e) units_list a));
    parties = λ e a. known.agrees.parties e
        (known.parties.each e (subst (λ xs. Contains xs e) parties_list a));
  }

  -- ---- its form, where it is short enough

  module _ (short : length (volume frame head s i) ≤ max_file) where
    few_in : (x : Data) (name : List ℕ) (xs : Items) → IsPart x V → get name x ≡ Some (array xs)
        → items_len xs ≤ any
    few_in x name xs part at =
        let p = part_short (array xs) V
        (part_of_part (array xs) x V (of_member name x (array xs) at itself) part) in
        let q = items_short xs in
        omega (arith, p, q, short)

    few : (name : List ℕ) (xs : Items) → get name V ≡ Some (array xs) → items_len xs ≤ any
    few name xs at = few_in V name xs itself at

    few_unless : (name : List ℕ) (xs : Items) → get name V ≡ unless_none xs → items_len xs ≤ any
    few_unless name no_items at = omega arith
    few_unless name (item x xs) at = few name (item x xs) at

    record_has_form : (c : Data) → Contains rs c → HasForm (One (leaf.Object group.Cvrs)) c
    record_has_form c a =
        let k = record_source c a in
        let part = listed_part (codes "CVR") V c (subst (λ xs. Contains xs c) (sym cvrs_list) a) in
        let at = at_snapshots (members_in (shown_body i (header_list s k.0)))
        (snapshot_values frame s can_hold i pos k.0 k.1) (current_id (shown_snapshots s i k.0)) in
        subst (HasForm (One (leaf.Object group.Cvrs))) k.3
        (record_value frame s can_hold i pos k.0 k.1
        (few_in (record_data (shown_record s i k.0)) snapshots_name
        (items_of (snapshot_values frame s can_hold i pos k.0 k.1))
        (subst (λ x. IsPart x V) (sym k.3) part) at))

    -- a member that is there has its form, and one that has to be there is
    abbrev Fits : Entry → Type 0
    Fits r = (r.required ≡ true → IsSome (get r.name V))
        × ((e : Data) → get r.name V ≡ Some e → HasForm r.kind e)

    has : (r : Entry) (x : Data) → get r.name V ≡ Some x → HasForm r.kind x → Fits r
    has r x is f = (
      (λ q. subst IsSome (sym is) refl),
      λ e at.
          subst (HasForm r.kind) (same_Some x e (sym is ∙ at)) f,
    )

    absent : (r : Entry) → r.required ≡ false → get r.name V ≡ None → Fits r
    absent r free is = (
      (λ q. absurd (true≢false (sym q ∙ free))),
      λ e at. let clash : None
          ≡ Some e = sym is ∙ at in absurd (Prim.cc clash),
    )

    may_have : (r : Entry) (xs : Items) → r.required ≡ false → get r.name V ≡ unless_none xs
        → HasForm r.kind (array xs) → Fits r
    may_have r no_items free is f = absent r free is
    may_have r (item x xs) free is f = has r (array (item x xs)) is f

    one_value : (l : Leaf) (least most : ℕ) (x : Data) → least ≤ 1 → 1 ≤ most → HasForm (One l) x
        → HasForm (Array l least most key.Free) (array (item x no_items))
    one_value l least most x lo hi f =
        values_form l least most (x ∷ []) (λ e a. subst (HasForm (One l)) (only_one x e a) f) lo hi

    election_form : (e : Data) → Contains (values frame.elections) e
        → HasForm (One (leaf.Object group.Elections)) e
    election_form e a =
        items_have_form (report_entry election_entry d refl known.report) e (known.elections.each e a)

    unit_form : (e : Data) → Contains (values frame.units) e
        → HasForm (One (leaf.Object group.GpUnits)) e
    unit_form e a =
        items_have_form (report_entry (required_member (codes "GpUnit")
        (Array (leaf.Object group.GpUnits) 0 any key.Id)) d refl known.report) e
        (known.units.each e a)

    party_form : (e : Data) → Contains (values frame.parties) e
        → HasForm (One (leaf.Object group.Parties)) e
    party_form e a =
        items_have_form (report_entry (optional_member (codes "Party")
        (Array (leaf.Object group.Parties) 0 any key.Id)) d refl known.report) e
        (known.parties.each e a)

    -- there is one Election
    one_there : (1 ≤ items_len E) × (items_len E ≤ 1)
    one_there =
        let one = one_election d known.report in
        let n : items_len E ≡ 1 =
        items_len-items_of (values frame.elections) ∙ ap length (known.election ∙ one.1) in
        (omega (arith, n), omega (arith, n))

    fitting : AllEntries Fits (table class_of.CastVoteRecordReport)
    fitting =
        may_have (optional_member (codes "CVR") (Array (leaf.Object group.Cvrs) 0 any key.Free)) R
        refl (at_cvrs E U head.date head.device D P R)
        (values_form (leaf.Object group.Cvrs) 0 any rs record_has_form (omega arith)
        (few_unless (codes "CVR") R (at_cvrs E U head.date head.device D P R))) ▸
        has (required_member (codes "Election") (Array (leaf.Object group.Elections) 1 1 key.Free))
        (array E) (at_elections E U head.date head.device D P R)
        (values_form (leaf.Object group.Elections) 1 1 (values frame.elections) election_form
        one_there.0 one_there.1) ▸
        has (required_member (codes "GeneratedDate") (One leaf.Moment)) (string head.date)
        (at_date E U head.date head.device D P R)
        (moment {s = head.date} refl can.heading.moment) ▸
        has (required_member (codes "GpUnit") (Array (leaf.Object group.GpUnits) 0 any key.Id))
        (array U) (at_units E U head.date head.device D P R)
        (objects_form group.GpUnits 0 (values frame.units) (refl, tt) unit_form
        (subst IsRising (sym known.units.ids) known.units.rises) (omega arith)
        (few (codes "GpUnit") U (at_units E U head.date head.device D P R))) ▸
        absent (optional_member (codes "Notes") (One leaf.Text)) refl
        (at_notes E U head.date head.device D P R) ▸
        absent (optional_member (codes "OtherReportType") (One leaf.Text)) refl
        (at_other_type E U head.date head.device D P R) ▸
        may_have (optional_member (codes "Party")
        (Array (leaf.Object group.Parties) 0 any key.Id)) P refl
        (at_parties E U head.date head.device D P R)
        (objects_form group.Parties 0 (values frame.parties) (refl, tt) party_form
        (subst IsRising (sym known.parties.ids) known.parties.rises) (omega arith)
        (few_unless (codes "Party") P
        (at_parties E U head.date head.device D P R))) ▸
        has (required_member (codes "ReportGeneratingDeviceIds")
        (Array leaf.Text 0 any key.Free))
        (array (item (string head.device) no_items))
        (at_generating E U head.date head.device D P R)
        (one_value leaf.Text 0 any (string head.device) (omega arith) (omega arith)
        (text {s = head.device} refl)) ▸
        has (optional_member (codes "ReportType")
        (Array (leaf.Listed listing.ReportType) 0 any key.Free))
        (array (item (string (codes "aggregated")) no_items))
        (at_report_type E U head.date head.device D P R)
        (one_value (leaf.Listed listing.ReportType) 0 any
        (string (codes "aggregated")) (omega arith) (omega arith)
        (listed {s = codes "aggregated"} refl refl)) ▸
        has (required_member (codes "ReportingDevice")
        (Array (leaf.Object group.ReportingDevices) 0 any key.Id)) (array D)
        (at_devices E U head.date head.device D P R)
        (objects_form group.ReportingDevices 0
        (device_values frame s can_hold i pos) (refl, tt)
        (device_form frame s can_hold i pos) (devices_rise frame s can_hold i pos)
        (omega arith)
        (few (codes "ReportingDevice") D
        (at_devices E U head.date head.device D P R))) ▸
        has (required_member (codes "Version")
        (One (leaf.Listed listing.Version))) (string (codes "1.0.0"))
        (at_version E U head.date head.device D P R)
        (listed {s = codes "1.0.0"} refl refl) ▸
        tt

    class_is : class_in group.Reports V ≡ Some class_of.CastVoteRecordReport
    class_is = ap (λ o. option_and_then (find_class (classes_of group.Reports))
        (option_and_then as_str o)) (at_class E U head.date head.device D P R)

    volume_form : HasForm (One (leaf.Object group.Reports)) V
    volume_form =
        class class_is (λ r j q. (all_entries Fits (table class_of.CastVoteRecordReport) r fitting j).0 q)
        (λ r e j at. (all_entries Fits (table class_of.CastVoteRecordReport) r fitting j).1 e at)

    pub volume_valid : Valid frame (volume frame head s i)
    volume_valid = (
      V,
      (short, volume_value),
      record
          { whole = volume_clean.proper.whole; form = volume_form; references = volume_refers },
      volume_agrees,
    )
