-- The facts of a volume are those that it shows.
use Rattle.std.proofs.Common.{◌≡◌, ◌<◌, ℕ, List, Contains, true, codes, sym, subst}
use Rattle.std.specs.FinSet.{contains}
use Rattle.serde_json.specs.Data.{Data}
use Rattle.cdf_parts.specs.Parts.{array_at}
use Rattle.cdf_definition.specs.Frame.{Frame}
use Rattle.cvr_fact_types.specs.declared.name.RecordName.{RecordName}
use Rattle.cvr_facts.specs.Choosing.{data_of}
use Rattle.cvr_fact_types.specs.Facts.{Fact, Device, Header, Snapshot, Facts}
use Rattle.cvr_facts.specs.Reports.{device_fact, header_fact, snapshot_fact, report_facts, facts}
use Rattle.cvr_facts.proofs.Lemmas.{in_map}
use Rattle.cvr_facts.specs.Sources.{Source, of_device, of_header, of_snapshot}
use Rattle.cvr_facts.proofs.Laws.{fact_source, fact_held, device_listed, header_listed}
use Rattle.cvr_facts.proofs.Laws.{snapshot_listed}
use Rattle.cvr_office.specs.CanHold.{CanHold}
use Rattle.cvr_office.specs.Names.{records, devices, snapshot_ids}
use Rattle.cvr_office.specs.Readers.{header_list, device_list, snapshot_list}
use Rattle.cvr_office.proofs.Lemmas.{in_filter}
use Rattle.cvr_report.specs.Head.{Head}
use Rattle.cvr_report.specs.Page.{shown_body, page, stands, shown_record}
use Rattle.cvr_report.specs.Volume.{record_data, volume}
use Rattle.cvr_exchange.specs.Passing.{CanHead}
use Rattle.cvr_exchange.proofs.Definitions.{IsDefined}
use Rattle.cvr_exchange.proofs.Reports.{V, devices_list, cvrs_list, record_source, volume_read}
use Rattle.cvr_exchange.proofs.Shown.{device_shown, snapshot_shown, header_shown}
use Rattle.cvr_exchange.proofs.Standing.{value_source, value_listed, device_back, snapshots_back}
use Rattle.cvr_exchange.proofs.Standing.{header_fact_back, snapshot_fact_back}

module _ (frame : Frame) (head : Head) (s : Facts) (i : ℕ) (can_hold : CanHold frame s)
    (can : CanHead frame head) (pos : 0 < i) (d : Data) (known : IsDefined frame d) where
  abbrev W : Data
  W = V frame head s i can_hold can pos d known

  abbrev one_device : List ℕ → List ℕ
  one_device id = shown_body i (device_list s id)

  abbrev one_header : RecordName → List ℕ
  one_header k = shown_body i (header_list s k)

  abbrev one_snapshot : RecordName → List ℕ → List ℕ
  one_snapshot k id = shown_body i (snapshot_list s k id)

  -- ---- nothing is added

  device_had : (e : Data) → Contains (array_at (codes "ReportingDevice") W) e
      → contains s (device_fact e) ≡ true
  device_had e a =
      let p = value_source one_device (devices s) e
      (subst (λ xs. Contains xs e) (devices_list frame head s i can_hold can pos d known) a) in
      subst (λ x. contains s (device_fact x) ≡ true) p.2
      (subst (λ f. contains s f ≡ true) (sym (device_back frame s can_hold i pos p.0 p.1))
      (device_shown frame s can_hold i pos p.0 p.1))

  -- the facts of a record that is shown
  module _ (k : RecordName) (a : Contains (records s) k) where
    header_kept : contains s (header_fact (record_data (shown_record s i k))) ≡ true
    header_kept = subst (λ f. contains s f ≡ true) (sym (header_fact_back frame s can_hold i pos k a))
        (header_shown frame s can_hold i pos k a)

    snapshot_kept : (id : List ℕ) → Contains (snapshot_ids s k) id
        → contains s (snapshot_fact (record_data (shown_record s i k))
        (data_of (one_snapshot k id))) ≡ true
    snapshot_kept id b =
        subst (λ f. contains s f ≡ true) (sym (snapshot_fact_back frame s can_hold i pos k a id b))
        (snapshot_shown frame s can_hold i pos k id b)

  header_had : (c : Data) → Contains (array_at (codes "CVR") W) c
      → contains s (header_fact c) ≡ true
  header_had c a =
      let k = record_source frame head s i can_hold can pos d known c
      (subst (λ xs. Contains xs c) (cvrs_list frame head s i can_hold can pos d known) a) in
      subst (λ x. contains s (header_fact x) ≡ true) k.3
      (header_kept k.0 k.1)

  snapshot_had : (c x : Data) → Contains (array_at (codes "CVR") W) c
      → Contains (array_at (codes "CVRSnapshot") c) x → contains s (snapshot_fact c x) ≡ true
  snapshot_had c x a b =
      let k = record_source frame head s i can_hold can pos d known c
      (subst (λ xs. Contains xs c) (cvrs_list frame head s i can_hold can pos d known) a) in
      let own = subst (λ y. Contains (array_at (codes "CVRSnapshot") y) x) (sym k.3) b in
      let p = value_source (one_snapshot k.0) (snapshot_ids s k.0) x
      (subst (λ xs. Contains xs x) (snapshots_back frame s can_hold i pos k.0 k.1) own) in
      subst (λ y. contains s (snapshot_fact y x) ≡ true) k.3
      (subst (λ y. contains s (snapshot_fact (record_data (shown_record s i k.0)) y) ≡ true) p.2
      (snapshot_kept k.0 k.1 p.0 p.1))

  source_had : (f : Fact) → Source W f → contains s f ≡ true
  source_had _ (of_device e a) = device_had e a
  source_had _ (of_header c a) = header_had c a
  source_had _ (of_snapshot c x a b) = snapshot_had c x a b

  pub fact_had : (f : Fact) → contains (facts (volume frame head s i)) f ≡ true
      → contains s f ≡ true
  fact_had f h = source_had f (subst (λ v. Source v f)
      (volume_read frame head s i can_hold can pos d known) (fact_source (volume frame head s i) f h))

  -- ---- what is shown is there

  to_volume : (f : Fact) → Contains (report_facts W) f
      → contains (facts (volume frame head s i)) f ≡ true
  to_volume f a = fact_held (volume frame head s i) f
      (subst (λ v. Contains (report_facts v) f)
      (sym (volume_read frame head s i can_hold can pos d known)) a)

  pub device_there : (id : List ℕ) → Contains (devices s) id
      → contains (facts (volume frame head s i)) (Device id (one_device id)) ≡ true
  device_there id a =
      let e = data_of (one_device id) in
      let at = subst (λ xs. Contains xs e) (sym (devices_list frame head s i can_hold can pos d known))
      (value_listed one_device (devices s) id a) in
      subst (λ f. contains (facts (volume frame head s i)) f ≡ true)
      (device_back frame s can_hold i pos id a) (to_volume (device_fact e) (device_listed W e at))

  module _ (k : RecordName) (a : Contains (records s) k) (st : stands s i k ≡ true) where
    record_at : Contains (array_at (codes "CVR") W) (record_data (shown_record s i k))
    record_at =
        subst (λ xs. Contains xs (record_data (shown_record s i k)))
        (sym (cvrs_list frame head s i can_hold can pos d known))
        (in_map record_data (shown_record s i k) (page s i).records
        (in_map (shown_record s i) k _ (in_filter (stands s i) (records s) k a st)))

    pub header_there : contains (facts (volume frame head s i))
        (Header k.device k.unique (one_header k)) ≡ true
    header_there =
        subst (λ f. contains (facts (volume frame head s i)) f ≡ true)
        (header_fact_back frame s can_hold i pos k a)
        (to_volume (header_fact (record_data (shown_record s i k)))
        (header_listed W (record_data (shown_record s i k)) record_at))

    pub snapshot_there : (id : List ℕ) → Contains (snapshot_ids s k) id
        → contains (facts (volume frame head s i))
        (Snapshot k.device k.unique id (one_snapshot k id)) ≡ true
    snapshot_there id b =
        let x = data_of (one_snapshot k id) in
        let at = subst (λ xs. Contains xs x) (sym (snapshots_back frame s can_hold i pos k a))
        (value_listed (one_snapshot k) (snapshot_ids s k) id b) in
        subst (λ f. contains (facts (volume frame head s i)) f ≡ true)
        (snapshot_fact_back frame s can_hold i pos k a id b)
        (to_volume (snapshot_fact (record_data (shown_record s i k)) x)
        (snapshot_listed W (record_data (shown_record s i k)) x record_at at))
