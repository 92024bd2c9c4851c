-- What each volume of a set of facts shows: of each name a body by number, or its last. (This
-- project's own.)
use Rattle.std.specs.Prelude.{ℕ, List, [], ◌∷◌, map, length, min, max, nat_le, Bool, unwrap_or}
use Rattle.std.specs.List.{filter}
use Rattle.std.specs.Option.{option_map_or}
use Rattle.std.specs.Ordering.{on}
use Rattle.cdf_typed.specs.Greatest.{max_by}
use Rattle.cvr_fact_types.specs.declared.name.RecordName.{RecordName}
use Rattle.cvr_fact_types.specs.Facts.{Facts}
use Rattle.cvr_facts.specs.Choosing.{choice_cmp}
use Rattle.cvr_office.specs.Names.{records, devices, snapshot_ids, most, greatest_count}
use Rattle.cvr_office.specs.Readers.{nth_from_one, header_list, device_list, snapshot_list}

-- an id, and the body that is shown under it
pub record Shown : Type 0 where
  pub id : List ℕ
  pub body : List ℕ

-- a record in a volume; `current` is a snapshot's id
pub record RecordPage : Type 0 where
  pub key : RecordName
  pub header : List ℕ
  pub snapshots : List Shown
  pub current : List ℕ

-- what a volume shows
pub record Page : Type 0 where
  pub devices : List Shown
  pub records : List RecordPage

-- body number i of a name, from 1, or the last where there are fewer
abbrev pub shown_body : ℕ → List (List ℕ) → List ℕ
shown_body i bodies = unwrap_or (nth_from_one bodies (min i (length bodies))) []

-- how many bodies each name of a record has
abbrev pub body_counts : Facts → RecordName → List ℕ
body_counts facts key = length (header_list facts key)
    ∷ map (λ id. length (snapshot_list facts key id)) (snapshot_ids facts key)

-- a record stands in volume i where one of its names has at least i bodies
abbrev pub stands : Facts → ℕ → RecordName → Bool
stands facts i key = nat_le i (most (body_counts facts key))

-- the ids of the snapshots of a record, each with the body that volume i shows under it
abbrev pub shown_snapshots : Facts → ℕ → RecordName → List Shown
shown_snapshots facts i key = map (λ id.
    record { id = id; body = shown_body i (snapshot_list facts key id) }) (snapshot_ids facts key)

-- the id of the greatest of these, by the order of choosing
abbrev pub current_id : List Shown → List ℕ
current_id shown_body =
    option_map_or (λ s. s.id) (max_by (on (λ s. s.body) choice_cmp) shown_body) []

-- a record as volume i shows it: its header, its snapshots, and the id of the current one of these
abbrev pub shown_record : Facts → ℕ → RecordName → RecordPage
shown_record facts i key = record {
  key = key;
  header = shown_body i (header_list facts key);
  snapshots = shown_snapshots facts i key;
  current = current_id (shown_snapshots facts i key);
}

-- what volume i shows: each device with a body; and each record that stands in it, in order
abbrev pub page : Facts → ℕ → Page
page facts i = record {
  devices =
      map (λ id. record { id = id; body = shown_body i (device_list facts id) }) (devices facts);
  records = map (shown_record facts i) (filter (stands facts i) (records facts));
}

-- the greatest number of bodies under one name, and at least 1
abbrev pub volumes : Facts → ℕ
volumes facts = max 1 (greatest_count facts)
