-- What volume i shows of the facts of a record that an office answered. (This project's own.)
use Rattle.std.specs.Prelude.{◌<◌, ◌-◌, ℕ, List, [], ◌∷◌, map, length, min, slice_index_or, None}
use Rattle.std.specs.List.{Contains}
use Rattle.cdf_types.specs.declared.snapshot_kind.SnapshotKind.TheVariants.{Original}
use Rattle.cvr_fact_types.specs.declared.header.HeaderFact.{HeaderFact}
use Rattle.cvr_fact_types.specs.declared.snapshot.SnapshotFact.{SnapshotFact}
use Rattle.cvr_office.specs.declared.record_facts.IdFacts.{IdFacts}
use Rattle.cvr_office.specs.declared.record_facts.RecordFacts.{RecordFacts}
use Rattle.cvr_report.specs.Page.{Shown, shown_body}

-- a snapshot that stands for an absent one
abbrev pub none : SnapshotFact
none = record {
  key = record { device = []; unique = [] };
  id = [];
  kind = Original;
  moment = None;
  votes = [];
  body = [];
}

abbrev pub bodies : IdFacts → List (List ℕ)
bodies g = map (λ s. s.now.body) g.snapshots.items

abbrev pub own_header_bodies : RecordFacts → List (List ℕ)
own_header_bodies r = map (λ h. h.now.body) r.headers.items

abbrev pub shown_of : ℕ → IdFacts → Shown
shown_of i g = record { id = g.id.now; body = shown_body i (bodies g) }

abbrev pub shown_all : ℕ → List IdFacts → List Shown
shown_all i ids = map (shown_of i) ids

abbrev pub shown_bodies : ℕ → List IdFacts → List (List ℕ)
shown_bodies i ids = map (λ s. s.body) (shown_all i ids)

-- snapshot number i under an id, or the last
abbrev pub pick : ℕ → IdFacts → SnapshotFact
pick i g =
    slice_index_or (map (λ s. s.now) g.snapshots.items) (min i (length g.snapshots.items) - 1) none

abbrev pub picks : ℕ → List IdFacts → List (List ℕ × SnapshotFact)
picks i ids = map (λ g. (g.id.now, pick i g)) ids

-- how many bodies each name has
abbrev pub counts_of : RecordFacts → List ℕ
counts_of r = length r.headers.items ∷ map (λ g. length g.snapshots.items) r.ids.items

-- no id stands without a snapshot
abbrev pub HaveSnapshots : List IdFacts → Type 0
HaveSnapshots ids = (g : IdFacts) → Contains ids g → 0 < length g.snapshots.items

-- there is a header, each header has a text, and each id a snapshot
pub record CanShow (r : RecordFacts) : Type 0 where
  pub headed : 0 < length r.headers.items
  pub texts : (h : HeaderFact) → Contains (map (λ h. h.now) r.headers.items) h → 0 < length h.body
  pub shot : HaveSnapshots r.ids.items
