-- What an office answers of its content. (This project's own.)
use Rattle.std.specs.Prelude.{◌≡◌, ◌-◌, ℕ, zero, suc, List, [], ◌∷◌, map, reverse, find, Bool}
use Rattle.std.specs.Prelude.{Option, Some, None, option_map}
use Rattle.std.specs.List.{filter, Contains}
use Rattle.std.specs.FinSet.{items, len, union}
use Rattle.std.specs.declared.cmp.Ordering.{Ordering}
use Rattle.std.specs.Ordering.{is_gt}
use Rattle.cdf_parts.specs.Places.{Contest}
use Rattle.cvr_fact_types.specs.declared.name.RecordName.{RecordName}
use Rattle.cvr_fact_types.specs.declared.header.HeaderFact.{HeaderFact}
use Rattle.cvr_fact_types.specs.declared.snapshot.SnapshotFact.{SnapshotFact}
use Rattle.cvr_fact_types.specs.Facts.{Facts}
use Rattle.cvr_facts.specs.Ordered.{keys_in_order}
use Rattle.cvr_facts.specs.Choosing.{choice_cmp, header, current}
use Rattle.cvr_facts.specs.Stands.{IsSpelledHeader, IsSpelledSnapshot}
use Rattle.cvr_office.specs.declared.conflict.ConflictName.TheVariants as name
use Rattle.cvr_office.specs.declared.record_facts.IdFacts.{IdFacts}
use Rattle.cvr_office.specs.declared.record_facts.RecordFacts.{RecordFacts}
use Rattle.cvr_office.specs.Names.{is_named, body_of, bodies_under, records, snapshot_ids}

-- the first above a given one, or the first of all
abbrev pub next : {K : Type 0} → (K → K → Ordering) → List K → Option K → Option K
next R ks None = find (λ k. Bool.true) ks
next R ks (Some key) = find (λ k. is_gt (R k key)) ks

-- the item at place k, from 1
abbrev pub nth_from_one : {K : Type 0} → List K → ℕ → Option K
nth_from_one [] k = None
nth_from_one (x ∷ xs) zero = None
nth_from_one (x ∷ xs) (suc zero) = Some x
nth_from_one (x ∷ xs) (suc (suc k)) = nth_from_one xs (suc k)

-- ---- one record

-- a header of this record, whose fields its body spells
pub record IsHeaderOf (key : RecordName) (h : HeaderFact) : Type 0 where
  pub key_is : h.key ≡ key
  pub spelled : IsSpelledHeader h

-- a snapshot of this record
pub record IsSnapshotOf (contests : List Contest) (key : RecordName)
    (s : SnapshotFact) : Type 0 where
  pub key_is : s.key ≡ key
  pub spelled : IsSpelledSnapshot contests s

-- the header of a record
pub record IsHeader (facts : Facts) (key : RecordName) (found : Option HeaderFact) : Type 0 where
  pub body : option_map (λ h. h.body) found ≡ header facts key
  pub typed : (h : HeaderFact) → found ≡ Some h → IsHeaderOf key h

-- the current snapshot of a record
pub record IsCurrent (contests : List Contest) (facts : Facts) (key : RecordName)
    (found : Option SnapshotFact) : Type 0 where
  pub body : option_map (λ s. s.body) found ≡ current facts key
  pub typed : (s : SnapshotFact) → found ≡ Some s → IsSnapshotOf contests key s

-- ---- bodies of a name, greatest first

-- headers and devices by bytes
abbrev pub header_list : Facts → RecordName → List (List ℕ)
header_list facts key = reverse (bodies_under facts (name.Header key))

abbrev pub device_list : Facts → List ℕ → List (List ℕ)
device_list facts id = reverse (bodies_under facts (name.Device id))

-- snapshots by the order of choosing
abbrev pub snapshot_list : Facts → RecordName → List ℕ → List (List ℕ)
snapshot_list facts key id = reverse (keys_in_order choice_cmp
    (map body_of (filter (is_named (name.Snapshot key id)) (items facts))))

-- ---- all facts of a record

-- those under one id
pub record AreIdFacts (contests : List Contest) (facts : Facts) (key : RecordName)
    (found : IdFacts) : Type 0 where
  pub bodies : map (λ s. s.now.body) found.snapshots.items ≡ snapshot_list facts key found.id.now
  pub typed : (s : SnapshotFact) → Contains (map (λ s. s.now) found.snapshots.items) s
      → IsSnapshotOf contests key s

-- headers and ids, each with its snapshots
pub record AreAllFactsOf (contests : List Contest) (facts : Facts) (key : RecordName)
    (found : RecordFacts) : Type 0 where
  pub bodies : map (λ h. h.now.body) found.headers.items ≡ header_list facts key
  pub typed : (h : HeaderFact) → Contains (map (λ h. h.now) found.headers.items) h
      → IsHeaderOf key h
  pub ids : map (λ i. i.id.now) found.ids.items ≡ snapshot_ids facts key
  pub snapshots : (i : IdFacts) → Contains found.ids.items i → AreIdFacts contests facts key i

-- all facts of a record are answered; or there is no such record, and none is
abbrev pub AreRecordFacts : List Contest → Facts → RecordName → Option RecordFacts → Type 0
AreRecordFacts contests facts key None = ¬ Contains (records facts) key
AreRecordFacts contests facts key (Some found) =
    Contains (records facts) key × AreAllFactsOf contests facts key found

-- ---- growth

-- how many facts a set gains from another
abbrev pub growth : Facts → Facts → ℕ
growth s t = len (union s t) - len s
