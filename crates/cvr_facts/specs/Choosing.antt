-- Which snapshot of a record is current, and which header stands: by Type, then by the greatest
-- instant of the annotations, then by bytes. (The types are NIST SP 1500-103's, class CVRSnapshot;
-- the order is this project's own.)
use Rattle.std.specs.Prelude.{◌≡◌, ℕ, ℤ, List, bytes_eq, Bool, false, ◌&&◌, if◌then◌else◌, Option}
use Rattle.std.specs.Prelude.{Some, None, unwrap_or}
use Rattle.std.specs.List.{filter_map, Contains}
use Rattle.std.specs.declared.cmp.Ordering.{Ordering}
use Rattle.std.specs.Ordering.{nat_cmp, int_cmp, ordering_then, is_gt}
use Rattle.std.specs.Option.{option_cmp}
use Rattle.std.specs.FinSet.{items}
use Rattle.serde_json.specs.Data.{Data, null}
use Rattle.serde_json.specs.Read.{read}
use Rattle.cdf_types.specs.declared.snapshot_kind.SnapshotKind.{SnapshotKind}
use Rattle.cdf_types.specs.SnapshotKind.{snapshot_kind_rank}
use Rattle.cdf_typed.specs.Greatest.{max_by}
use Rattle.cdf_typed.specs.Typed.{kind_of, moment_of}
use Rattle.cvr_fact_types.specs.declared.name.RecordName.{RecordName}
use Rattle.cvr_fact_types.specs.declared.snapshot.SnapshotFact.{SnapshotFact}
use Rattle.cvr_fact_types.specs.Facts.{Fact, Header, Snapshot, Facts, text_cmp}

-- the value that a body spells
abbrev pub data_of : List ℕ → Data
data_of body = unwrap_or (read body) null

-- ranks as numbers, then instants by time, none before all
abbrev pub stage_cmp : SnapshotKind → Option ℤ → SnapshotKind → Option ℤ → Ordering
stage_cmp kind moment other_kind other_moment =
    ordering_then (nat_cmp (snapshot_kind_rank kind) (snapshot_kind_rank other_kind))
    (option_cmp int_cmp moment other_moment)

-- the order of choosing among bodies: by what they spell, then by bytes
abbrev pub choice_cmp : List ℕ → List ℕ → Ordering
choice_cmp a b = ordering_then (stage_cmp (kind_of (data_of a)) (moment_of (data_of a))
    (kind_of (data_of b)) (moment_of (data_of b))) (text_cmp a b)

-- the order of choosing among snapshot facts: by their fields, then by the bytes of their bodies
abbrev pub fact_choice : SnapshotFact → SnapshotFact → Ordering
fact_choice a b = ordering_then (stage_cmp a.kind a.moment b.kind b.moment) (text_cmp a.body b.body)

-- whether these two texts are a record's name
abbrev pub is_name : RecordName → List ℕ → List ℕ → Bool
is_name key device unique = bytes_eq key.device device && bytes_eq key.unique unique

-- the body of a fact that is a header of the record
abbrev pub header_body : RecordName → Fact → Option (List ℕ)
header_body key (Header d u b) = if is_name key d u then Some b else None
header_body key fact = None

-- the body of a fact that is a snapshot of the record
abbrev pub snapshot_body : RecordName → Fact → Option (List ℕ)
snapshot_body key (Snapshot d u i b) = if is_name key d u then Some b else None
snapshot_body key fact = None

-- the bodies of the headers of a record among facts; and those of its snapshots
abbrev pub header_bodies : Facts → RecordName → List (List ℕ)
header_bodies facts key = filter_map (header_body key) (items facts)

abbrev pub snapshot_bodies : Facts → RecordName → List (List ℕ)
snapshot_bodies facts key = filter_map (snapshot_body key) (items facts)

-- the header of a record: the greatest by bytes
abbrev pub header : Facts → RecordName → Option (List ℕ)
header facts key = max_by text_cmp (header_bodies facts key)

-- the current snapshot of a record: the greatest of its bodies in the order of choosing
abbrev pub current : Facts → RecordName → Option (List ℕ)
current facts key = max_by choice_cmp (snapshot_bodies facts key)

-- one of the list, which nothing in it passes
pub record IsGreatest {K : Type 0} (R : K → K → Ordering) (xs : List K) (x : K) : Type 0 where
  pub listed : Contains xs x
  pub top : (y : K) → Contains xs y → is_gt (R y x) ≡ false
