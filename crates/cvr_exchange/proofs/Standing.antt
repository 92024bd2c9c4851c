-- What a volume shows stands: devices and records as values.
use Rattle.std.proofs.Common.{◌≡◌, ◌<◌, ◌≤◌, ℕ, List, [], ◌∷◌, map, length, Contains, true}
use Rattle.std.proofs.Common.{Some, IsUtf8, codes, unwrap_or, refl, sym, ap, ◌∙◌, subst, arith}
use Rattle.std.specs.Prelude.{option_and_then}
use Rattle.std.specs.FinSet.{contains, items}
use Rattle.std.specs.List.{filter_map}
use Rattle.serde_json.specs.Data.{Data, null, boolean, number, string, array, object, no_members}
use Rattle.serde_json.specs.Events.{items_len}
use Rattle.serde_json.specs.Find.{get, as_object, as_str}
use Rattle.serde_json.specs.View.{items_of}
use Rattle.serde_json.specs.Written.{compact_text}
use Rattle.cdf_form.specs.declared.table.Class.{Class}
use Rattle.cdf_form.specs.declared.table.Group.TheVariants as group
use Rattle.cdf_form.specs.declared.table.Leaf.TheVariants as leaf
use Rattle.cdf_form.specs.declared.table.Kind.TheVariants.{One}
use Rattle.cdf_form.specs.Tables.{any}
use Rattle.cdf_form.specs.Form.{class_in}
use Rattle.cdf_form.specs.HasForm.{HasForm}
use Rattle.cdf_parts.specs.Parts.{array_at, id_of, text_at}
use Rattle.cdf_definition.specs.Bodies.{DeviceStands, HeaderStands, SnapshotStands}
use Rattle.cdf_definition.specs.Frame.{Frame, scope_in}
use Rattle.cdf_definition.specs.References.{Scope}
use Rattle.cdf_definition.specs.Resolves.{CvrResolves}
use Rattle.cdf_check.proofs.Laws.{more_devices, header_stays, snapshot_stays}
use Rattle.cdf_check.proofs.Lemmas.{items_len-items_of}
use Rattle.cdf_definition.proofs.Laws.{is_kept}
use Rattle.cdf_check.specs.Wider.{Wider}
use Rattle.cvr_fact_types.specs.declared.name.RecordName.{RecordName}
use Rattle.cvr_fact_types.specs.Facts.{Device, Header, Snapshot, Facts, text_cmp}
use Rattle.cvr_facts.specs.Choosing.{data_of}
use Rattle.cvr_facts.specs.Reports.{device_fact, header_fact, snapshot_fact}
use Rattle.cvr_facts.specs.Stands.{Stands}
use Rattle.cvr_facts.proofs.Laws.{text_total, text_exact}
use Rattle.cvr_facts.proofs.Lemmas.{at_head, at_tail, in_map, from_map, ordered_rises}
use Rattle.cvr_office.specs.CanHold.{CanHold, content_scope}
use Rattle.cvr_office.specs.Names.{records, devices, snapshot_ids, id_in}
use Rattle.cvr_office.specs.Readers.{header_list, device_list, snapshot_list}
use Rattle.cvr_office.specs.Under.{device_ids}
use Rattle.cvr_office.proofs.Laws.{includes}
use Rattle.cvr_office.proofs.Lemmas.{in_ordered}
use Rattle.cvr_report.specs.Page.{Shown, shown_body, shown_snapshots, shown_record, current_id}
use Rattle.cvr_report.specs.Volume.{members_in, record_data}
use Rattle.cvr_report.specs.Record.{snapshots_name}
use Rattle.cvr_exchange.proofs.Arrays.{IsRising}
use Rattle.cvr_exchange.proofs.Clean.{IsClean, clean_read}
use Rattle.cvr_exchange.proofs.Records.{snapshots_are, text_other, header_back, record_clean}
use Rattle.cvr_exchange.proofs.Records.{record_form, record_resolves}
use Rattle.cvr_exchange.proofs.Shown.{device_shown, snapshot_shown, header_shown, some_id}
use Rattle.cvr_exchange.proofs.Shown.{current_listed}

-- ---- lists of what is shown

-- the values of the bodies that are shown under these ids
abbrev pub shown_values : (List ℕ → List ℕ) → List (List ℕ) → List Data
shown_values f ids =
    map data_of (map (λ (q : Shown). q.body) (map (λ id. record { id = id; body = f id }) ids))

pub value_source : (f : List ℕ → List ℕ) (ids : List (List ℕ)) (d : Data)
    → Contains (shown_values f ids) d → (id : List ℕ) × Contains ids id × (data_of (f id) ≡ d)
value_source f [] d a = absurd (let lt = a.1 in omega (arith, lt))
value_source f (id ∷ ids) d a =
    let b = from_map data_of d (map (λ (q : Shown). q.body)
    (map (λ id. record { id = id; body = f id }) (id ∷ ids))) a in
    let q = from_map (λ (q : Shown). q.body) b.0
    (map (λ id. record { id = id; body = f id }) (id ∷ ids)) b.1 in
    let j = from_map (λ id. record { id = id; body = f id }) q.0 (id ∷ ids) q.1 in
    (j.0, j.1, ap data_of (ap (λ (q : Shown). q.body) j.2 ∙ q.2) ∙ b.2)

pub value_listed : (f : List ℕ → List ℕ) (ids : List (List ℕ)) (id : List ℕ) → Contains ids id
    → Contains (shown_values f ids) (data_of (f id))
value_listed f ids id a =
    in_map data_of (f id) _ (in_map (λ (q : Shown). q.body) (record { id = id; body = f id }) _
    (in_map (λ id. record { id = id; body = f id }) id ids a))

ids_of_values : (f : List ℕ → List ℕ) (ids : List (List ℕ))
    → ((id : List ℕ) → Contains ids id → id_of (data_of (f id)) ≡ id)
    → map id_of (shown_values f ids) ≡ ids
ids_of_values f [] h = refl
ids_of_values f (id ∷ ids) h =
    λ i. h id (at_head id ids) i ∷ ids_of_values f ids (λ j a. h j (at_tail id j ids a)) i

ids_shown : (f : List ℕ → List ℕ) (ids : List (List ℕ))
    → map (λ (q : Shown). q.id) (map (λ id. record { id = id; body = f id }) ids) ≡ ids
ids_shown f [] = refl
ids_shown f (id ∷ ids) = ap (λ js. id ∷ js) (ids_shown f ids)

some_listed : {X : Type 0} (xs : List X) (x : X) → Contains xs x → 0 < length xs
some_listed xs x a = let lt = a.1 in omega (arith, lt)

-- ---- an object of the class of a CVR

object_is : (x : Data) (c : Class) → class_in group.Cvrs x ≡ Some c
    → x ≡ object (unwrap_or (as_object x) no_members)
object_is null c e = absurd (Prim.cc e)
object_is (boolean b) c e = absurd (Prim.cc e)
object_is (number n) c e = absurd (Prim.cc e)
object_is (string s) c e = absurd (Prim.cc e)
object_is (array ds) c e = absurd (Prim.cc e)
object_is (object ms) c e = refl

id_text : (d : Data) (id : List ℕ) → get (codes "@id") d ≡ Some (string id) → id_of d ≡ id
id_text d id is = ap (λ o. unwrap_or (option_and_then as_str o) []) is

-- ---- bodies that are held

module _ (frame : Frame) (s : Facts) (can_hold : CanHold frame s) where
  -- what the definition and the devices of the facts name
  abbrev pub here : Scope
  here = scope_in frame (devices s)

  wider : Wider (content_scope frame s) here
  wider = more_devices frame (device_ids s) (devices s)
      (includes (device_ids s) (devices s)
      (λ id a. in_ordered text_total text_exact (device_ids s) id a))

  module _ (id b : List ℕ) (held : contains s (Device id b) ≡ true) where
    device_body : Stands (content_scope frame s) (Device id b)
    device_body = can_hold.stand (Device id b) held

    device_is : data_of b ≡ device_body.0
    device_is = ap (λ o. unwrap_or o null) device_body.1.1

    pub device_stands : DeviceStands id (data_of b)
    device_stands = subst (DeviceStands id) (sym device_is) device_body.2

    pub device_text : compact_text (data_of b) ≡ b
    device_text = ap compact_text device_is ∙ sym device_body.1.0

    pub device_clean : IsClean 125 (data_of b)
    device_clean = clean_read 125 b (data_of b) (can_hold.utf8 (Device id b) held).1.0
        (device_body.1.1 ∙ ap Some (sym device_is)) device_stands.proper

  module _ (device unique id b : List ℕ)
      (held : contains s (Snapshot device unique id b) ≡ true) where
    snapshot_body : Stands (content_scope frame s) (Snapshot device unique id b)
    snapshot_body = can_hold.stand (Snapshot device unique id b) held

    snapshot_is : data_of b ≡ snapshot_body.0
    snapshot_is = ap (λ o. unwrap_or o null) snapshot_body.1.1

    pub snapshot_stands : SnapshotStands here id (data_of b)
    snapshot_stands = subst (SnapshotStands here id) (sym snapshot_is)
        (snapshot_stays (content_scope frame s) here wider id snapshot_body.0 snapshot_body.2)

    pub snapshot_text : compact_text (data_of b) ≡ b
    snapshot_text = ap compact_text snapshot_is ∙ sym snapshot_body.1.0

    pub snapshot_clean : IsClean 123 (data_of b)
    snapshot_clean =
        clean_read 123 b (data_of b) (can_hold.utf8 (Snapshot device unique id b) held).1.1.1.0
        (snapshot_body.1.1 ∙ ap Some (sym snapshot_is)) snapshot_stands.proper

    pub snapshot_id_utf8 : IsUtf8 id
    snapshot_id_utf8 = (can_hold.utf8 (Snapshot device unique id b) held).1.1.0

  module _ (device unique b : List ℕ) (held : contains s (Header device unique b) ≡ true) where
    header_body : Stands (content_scope frame s) (Header device unique b)
    header_body = can_hold.stand (Header device unique b) held

    header_is : object (members_in b) ≡ header_body.0
    header_is =
        ap (λ o. object (unwrap_or (option_and_then as_object o) no_members)) header_body.1.1
        ∙ sym (object_is header_body.0 _ header_body.2.form.class_is)

    pub header_stands : HeaderStands here device unique (object (members_in b))
    header_stands = subst (HeaderStands here device unique) (sym header_is)
        (header_stays (content_scope frame s) here wider device unique header_body.0 header_body.2)

    pub header_text : compact_text (object (members_in b)) ≡ b
    header_text = ap compact_text header_is ∙ sym header_body.1.0

    pub header_clean : IsClean 125 (object (members_in b))
    header_clean =
        clean_read 125 b (object (members_in b)) (can_hold.utf8 (Header device unique b) held).1.1.0
        (header_body.1.1 ∙ ap Some (sym header_is)) header_stands.proper

  -- ---- devices that a volume shows

  module _ (i : ℕ) (pos : 0 < i) where
    abbrev shown_device : List ℕ → List ℕ
    shown_device id = shown_body i (device_list s id)

    abbrev pub device_values : List Data
    device_values = shown_values shown_device (devices s)

    pub device_ids_are : map id_of device_values ≡ devices s
    device_ids_are = ids_of_values shown_device (devices s) (λ id a.
        id_text (data_of (shown_device id)) id
        (device_stands id (shown_device id) (device_shown frame s can_hold i pos id a)).id_is)

    pub devices_rise : IsRising (map id_of device_values)
    devices_rise = subst IsRising (sym device_ids_are) (ordered_rises text_cmp (device_ids s))

    pub device_form : (d : Data) → Contains device_values d
        → HasForm (One (leaf.Object group.ReportingDevices)) d
    device_form d a =
        let p = value_source shown_device (devices s) d a in
        subst (λ x. HasForm (One (leaf.Object group.ReportingDevices)) x) p.2
        (device_stands p.0 (shown_device p.0) (device_shown frame s can_hold i pos p.0 p.1)).form

    pub devices_clean : (d : Data) → Contains device_values d → IsClean 125 d
    devices_clean d a =
        let p = value_source shown_device (devices s) d a in
        subst (IsClean 125) p.2 (device_clean p.0 (shown_device p.0)
        (device_shown frame s can_hold i pos p.0 p.1))

    pub device_back : (id : List ℕ) → Contains (devices s) id
        → device_fact (data_of (shown_device id)) ≡ Device id (shown_device id)
    device_back id a =
        let held = device_shown frame s can_hold i pos id a in
        let name = id_text (data_of (shown_device id)) id
        (device_stands id (shown_device id) held).id_is in
        let text = device_text id (shown_device id) held in
        λ j. Device (name j) (text j)

    -- ---- records that a volume shows

    module _ (key : RecordName) (at : Contains (records s) key) where
      abbrev shown_snapshot : List ℕ → List ℕ
      shown_snapshot id = shown_body i (snapshot_list s key id)

      abbrev pub snapshot_values : List Data
      snapshot_values = shown_values shown_snapshot (snapshot_ids s key)

      abbrev head : List ℕ
      head = shown_body i (header_list s key)

      abbrev current : List ℕ
      current = current_id (shown_snapshots s i key)

      held_head : contains s (Header key.device key.unique head) ≡ true
      held_head = header_shown frame s can_hold i pos key at

      held_snapshot : (id : List ℕ) → Contains (snapshot_ids s key) id
          → contains s (Snapshot key.device key.unique id (shown_snapshot id)) ≡ true
      held_snapshot id a = snapshot_shown frame s can_hold i pos key id a

      stands : HeaderStands here key.device key.unique (object (members_in head))
      stands = header_stands key.device key.unique head held_head

      one_stands : (id : List ℕ) → Contains (snapshot_ids s key) id
          → SnapshotStands here id (data_of (shown_snapshot id))
      one_stands id a =
          snapshot_stands key.device key.unique id (shown_snapshot id) (held_snapshot id a)

      one_id : (id : List ℕ) → Contains (snapshot_ids s key) id
          → id_of (data_of (shown_snapshot id)) ≡ id
      one_id id a = id_text (data_of (shown_snapshot id)) id (one_stands id a).id_is

      snapshot_ids_are : map id_of snapshot_values ≡ snapshot_ids s key
      snapshot_ids_are = ids_of_values shown_snapshot (snapshot_ids s key) one_id

      each_stands : (d : Data) → Contains snapshot_values d → SnapshotStands here (id_of d) d
      each_stands d a =
          let p = value_source shown_snapshot (snapshot_ids s key) d a in
          subst (λ x. SnapshotStands here (id_of x) x) p.2
          (subst (λ n. SnapshotStands here n (data_of (shown_snapshot p.0))) (sym (one_id p.0 p.1))
          (one_stands p.0 p.1))

      each_clean : (d : Data) → Contains snapshot_values d → IsClean 123 d
      each_clean d a =
          let p = value_source shown_snapshot (snapshot_ids s key) d a in
          subst (IsClean 123) p.2 (snapshot_clean key.device key.unique p.0 (shown_snapshot p.0)
          (held_snapshot p.0 p.1))

      some_value : 1 ≤ items_len (items_of snapshot_values)
      some_value =
          let one = some_id frame s can_hold i pos key at in
          let lt = some_listed snapshot_values _
          (value_listed shown_snapshot (snapshot_ids s key) one.0 one.1) in
          omega (arith, lt, items_len-items_of snapshot_values)

      current_in : Contains (snapshot_ids s key) current
      current_in =
          let one = some_id frame s can_hold i pos key at in
          let lt = some_listed (shown_snapshots s i key) _
          (in_map (λ id. record { id = id; body = shown_snapshot id }) one.0
          (snapshot_ids s key) one.1) in
          subst (λ ids. Contains ids current) (ids_shown shown_snapshot (snapshot_ids s key))
          (current_listed (shown_snapshots s i key) lt)

      pub record_value : items_len (items_of snapshot_values) ≤ any
          → HasForm (One (leaf.Object group.Cvrs)) (record_data (shown_record s i key))
      record_value few =
          record_form (members_in head) snapshot_values current here key.device key.unique stands
          each_stands
          (subst IsRising (sym snapshot_ids_are)
          (ordered_rises text_cmp (filter_map (id_in key) (items s)))) some_value few

      pub record_refers : CvrResolves here (record_data (shown_record s i key))
      record_refers =
          record_resolves (members_in head) snapshot_values current here key.device key.unique
          stands each_stands
          (subst (λ ids. Contains ids current) (sym snapshot_ids_are) current_in)

      pub record_is_clean : IsClean 125 (record_data (shown_record s i key))
      record_is_clean =
          record_clean (members_in head) snapshot_values current
          (header_clean key.device key.unique head held_head) each_clean
          (snapshot_id_utf8 key.device key.unique current (shown_snapshot current)
          (held_snapshot current current_in))

      -- ---- its facts

      device_at : text_at (codes "CreatingDeviceId") (record_data (shown_record s i key))
          ≡ key.device
      device_at = text_other (members_in head) snapshot_values current (codes "CreatingDeviceId")
          key.device (is_kept (codes "CreatingDeviceId") refl refl) stands.device_is

      unique_at : text_at (codes "UniqueId") (record_data (shown_record s i key)) ≡ key.unique
      unique_at = text_other (members_in head) snapshot_values current (codes "UniqueId") key.unique
          (is_kept (codes "UniqueId") refl refl) stands.unique_is

      pub snapshots_back : array_at snapshots_name (record_data (shown_record s i key))
          ≡ snapshot_values
      snapshots_back = snapshots_are (members_in head) snapshot_values current

      pub header_fact_back : header_fact (record_data (shown_record s i key))
          ≡ Header key.device key.unique head
      header_fact_back =
          let body = ap compact_text (header_back (members_in head) snapshot_values current
          stands.form.no_snapshots stands.form.no_current)
          ∙ header_text key.device key.unique head held_head in
          λ j. Header (device_at j) (unique_at j) (body j)

      pub snapshot_fact_back : (id : List ℕ) → Contains (snapshot_ids s key) id
          → snapshot_fact (record_data (shown_record s i key)) (data_of (shown_snapshot id))
          ≡ Snapshot key.device key.unique id (shown_snapshot id)
      snapshot_fact_back id a =
          let name = one_id id a in
          let body =
          snapshot_text key.device key.unique id (shown_snapshot id) (held_snapshot id a) in
          λ j. Snapshot (device_at j) (unique_at j) (name j) (body j)
