-- The volumes of a set of facts that is given by a list.
use Rattle.std.proofs.Common.{◌≡◌, ℕ, Bool, List, ◌∷◌, map, reverse, length, max, Contains}
use Rattle.std.proofs.Common.{Option, Ordering, nat_le, ap, ◌∙◌, subst}
use Rattle.std.specs.List.{filter, filter_map}
use Rattle.std.specs.Cmp.{IsTotalOrder}
use Rattle.std.specs.FinMap as map_of
use Rattle.std.specs.FinMap.{IsAntisymmetric}
use Rattle.std.specs.FinSet.{items, from_list}
use Rattle.serde_json.specs.Written.{compact_text}
use Rattle.cdf_definition.specs.Frame.{Frame}
use Rattle.cvr_fact_types.specs.declared.name.RecordName.{RecordName}
use Rattle.cvr_fact_types.specs.Facts.{Fact, Facts, fact_total, fact_exact, text_cmp, name_cmp}
use Rattle.cvr_facts.specs.Ordered.{keys_in_order}
use Rattle.cvr_facts.specs.Choosing.{choice_cmp}
use Rattle.cvr_facts.proofs.Laws.{text_total, text_exact, choice_total, choice_exact, contains_iff}
use Rattle.cvr_facts.proofs.Lemmas.{in_map, from_map, in_set, from_set, ordered_rises}
use Rattle.cvr_facts.proofs.Lemmas.{Contains-filter_map, from-filter_map}
use Rattle.cvr_office.specs.declared.conflict.ConflictName.{ConflictName}
use Rattle.cvr_office.specs.declared.conflict.ConflictName.TheVariants as name
use Rattle.cvr_office.specs.Names.{name_of, body_of, is_named, conflict_cmp, device_in, id_in}
use Rattle.cvr_office.specs.Names.{record_of, devices, snapshot_ids, most}
use Rattle.cvr_office.specs.Readers.{device_list, header_list, snapshot_list}
use Rattle.cvr_office.proofs.Laws.{conflict_total, conflict_exact}
use Rattle.cvr_office.proofs.Lemmas.{sorted, records-given, in_ordered, from_ordered}
use Rattle.cvr_office.proofs.Lemmas.{keys_in_order-members, in_filter, from_filter}
use Rattle.cvr_office.proofs.Lemmas.{keys_in_order-is}
use Rattle.cvr_report.specs.Head.{Head}
use Rattle.cvr_report.specs.Page.{Page, RecordPage, Shown, shown_body, current_id, shown_record}
use Rattle.cvr_report.specs.Page.{page, volumes}
use Rattle.cvr_report.specs.Volume.{volume_data, volume}

-- ---- lists in order

-- more facts make all that fewer make
abbrev Grows : {K : Type 0} → (List Fact → List K) → Type 0
Grows {K} make = (xs ys : List Fact) → ((f : Fact) → Contains xs f → Contains ys f) → (k : K)
    → Contains (make xs) k → Contains (make ys) k

picking : {K : Type 0} (pick : Fact → Option K) → Grows (filter_map pick)
picking pick xs ys more k at =
    let f = from-filter_map pick xs k at in Contains-filter_map pick ys f.0 k (more f.0 f.1) f.2

naming : Grows (map name_of)
naming xs ys more n at = let f = from_map name_of n xs at in
    subst (Contains (map name_of ys)) f.2 (in_map name_of f.0 ys (more f.0 f.1))

under : (n : ConflictName) → Grows (λ fs. map body_of (filter (is_named n) fs))
under n xs ys more b at =
    let f = from_map body_of b (filter (is_named n) xs) at in
    let own = from_filter (is_named n) xs f.0 f.1 in
    subst (Contains (map body_of (filter (is_named n) ys))) f.2
    (in_map body_of f.0 (filter (is_named n) ys)
    (in_filter (is_named n) ys f.0 (more f.0 own.0) own.1))

module _ (fs : List Fact) where
  abbrev given : Facts
  given = from_list fs

  there : (f : Fact) → Contains (items given) f → Contains fs f
  there f at = from_set fact_total fact_exact fs f ((contains_iff given f).1 at)

  back : (f : Fact) → Contains fs f → Contains (items given) f
  back f at = (contains_iff given f).0 (in_set fact_total fact_exact fs f at)

  -- what facts make, in order
  made : {K : Type 0} {R : K → K → Ordering} → IsTotalOrder R → IsAntisymmetric R
      → (make : List Fact → List K) → Grows make
      → keys_in_order R (make (items given)) ≡ sorted R (make fs)
  made {R = R} t e make grows =
      keys_in_order-members t e (make (items given)) (keys_in_order R (make fs))
      (ordered_rises R (make fs))
      (λ k at. grows fs (items given) back k (from_ordered t e (make fs) k at))
      (λ k at. in_ordered t e (make fs) k (grows (items given) fs there k at))
      ∙ keys_in_order-is t (make fs)

-- ---- how many volumes

abbrev number_in : List Fact → ℕ
number_in fs = max 1 (most (map (λ n. length
    (sorted text_cmp (map body_of (filter (is_named n) fs))))
    (sorted conflict_cmp (map name_of fs))))

pub volumes-given : (fs : List Fact) → volumes (from_list fs) ≡ number_in fs
volumes-given fs =
    λ i. max 1 (most (map (λ n. length (made fs text_total text_exact _ (under n) i))
    (made fs conflict_total conflict_exact _ naming i)))

-- ---- what they show

-- a page of these devices and records, by their bodies
module _ (headers : RecordName → List (List ℕ)) (ids : RecordName → List (List ℕ))
    (snapshots : RecordName → List ℕ → List (List ℕ)) (i : ℕ) where
  abbrev stands_by : RecordName → Bool
  stands_by key =
      nat_le i (most (length (headers key) ∷ map (λ id. length (snapshots key id)) (ids key)))

  abbrev snapshots_by : RecordName → List Shown
  snapshots_by key =
      map (λ id. record { id = id; body = shown_body i (snapshots key id) }) (ids key)

  abbrev record_by : RecordName → RecordPage
  record_by key = record {
    key = key;
    header = shown_body i (headers key);
    snapshots = snapshots_by key;
    current = current_id (snapshots_by key);
  }

  abbrev page_by : List (List ℕ) → (List ℕ → List (List ℕ)) → List RecordName → Page
  page_by devices device_bodies records = record {
    devices = map (λ id. record { id = id; body = shown_body i (device_bodies id) }) devices;
    records = map record_by (filter stands_by records);
  }

-- those of a list of facts
module _ (fs : List Fact) where
  -- the bodies of a name, the greatest first
  abbrev falling : (List ℕ → List ℕ → Ordering) → ConflictName → List (List ℕ)
  falling R n = reverse (sorted R (map body_of (filter (is_named n) fs)))

  abbrev headers_in : RecordName → List (List ℕ)
  headers_in key = falling text_cmp (name.Header key)

  abbrev ids_in : RecordName → List (List ℕ)
  ids_in key = sorted text_cmp (filter_map (id_in key) fs)

  abbrev snapshots_in : RecordName → List ℕ → List (List ℕ)
  snapshots_in key id = falling choice_cmp (name.Snapshot key id)

  abbrev pub record_in : ℕ → RecordName → RecordPage
  record_in i = record_by headers_in ids_in snapshots_in i

  abbrev pub page_in : ℕ → Page
  page_in i =
      page_by headers_in ids_in snapshots_in i
      (sorted text_cmp (filter_map device_in fs)) (λ id. falling text_cmp (name.Device id))
      (sorted name_cmp (filter_map record_of fs))

  devices-given : devices (given fs) ≡ sorted text_cmp (filter_map device_in fs)
  devices-given = made fs text_total text_exact _ (picking device_in)

  device_list-given : (id : List ℕ) → device_list (given fs) id ≡ falling text_cmp (name.Device id)
  device_list-given id = ap reverse (made fs text_total text_exact _ (under (name.Device id)))

  headers-given : (key : RecordName) → header_list (given fs) key ≡ headers_in key
  headers-given key = ap reverse (made fs text_total text_exact _ (under (name.Header key)))

  ids-given : (key : RecordName) → snapshot_ids (given fs) key ≡ ids_in key
  ids-given key = made fs text_total text_exact _ (picking (id_in key))

  snapshots-given : (key : RecordName) (id : List ℕ)
      → snapshot_list (given fs) key id ≡ snapshots_in key id
  snapshots-given key id =
      ap reverse (made fs choice_total choice_exact _ (under (name.Snapshot key id)))

  pub record-given : (i : ℕ) (key : RecordName)
      → shown_record (from_list fs) i key ≡ record_in i key
  record-given i key = λ j. record_by (λ k. headers-given k j) (λ k. ids-given k j)
      (λ k id. snapshots-given k id j) i key

  page-given : (i : ℕ) → page (from_list fs) i ≡ page_in i
  page-given i = λ j.
      page_by (λ k. headers-given k j) (λ k. ids-given k j) (λ k id. snapshots-given k id j) i
      (devices-given j) (λ id. device_list-given id j) (records-given fs j)

  pub volume-given : (frame : Frame) (head : Head) (i : ℕ)
      → volume frame head (from_list fs) i
      ≡ compact_text (volume_data frame head.date head.device (page_in i))
  volume-given frame head i =
      ap (λ p. compact_text (volume_data frame head.date head.device p)) (page-given i)
