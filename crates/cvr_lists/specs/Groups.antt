-- The snapshots of a record's run by id. (This project's own.)
use Rattle.std.specs.Prelude.{◌≡◌, ℕ, List, bytes_eq, map, reverse, Option, Some, None}
use Rattle.std.specs.List.{filter, dedup, Contains}
use Rattle.std.specs.List.Sorted.{IsSorted, IsSortedBy, IsPermutation}
use Rattle.std.specs.declared.cmp.Ordering.{Ordering}
use Rattle.std.specs.Ordering.{is_eq, is_lt}
use Rattle.std.specs.Option.{option_cmp}
use Rattle.cvr_fact_types.specs.declared.snapshot.SnapshotFact.{SnapshotFact}
use Rattle.cvr_fact_types.specs.Facts.{text_cmp}
use Rattle.cvr_facts.specs.Choosing.{fact_choice}
use Rattle.cvr_office.specs.declared.any_fact.AnyFact.{AnyFact}
use Rattle.cvr_office.specs.declared.any_fact.AnyFact.TheVariants as any
use Rattle.cvr_office.specs.declared.record_facts.IdFacts.{IdFacts}
use Rattle.cvr_office.specs.Runs.{snapshots}

abbrev pub snapshot_id : AnyFact → Option (List ℕ)
snapshot_id (any.Snapshot s) = Some s.id
snapshot_id fact = None

-- how a fact's snapshot id stands to this one; a fact that has none stands before all
abbrev pub id_order : List ℕ → AnyFact → Ordering
id_order id fact = option_cmp text_cmp (snapshot_id fact) (Some id)

-- the snapshots with this id
abbrev pub with_id : List ℕ → List AnyFact → List AnyFact
with_id id facts = filter (λ fact. is_eq (id_order id fact)) facts

abbrev pub ids : List AnyFact → List (List ℕ)
ids facts = map (λ s. s.id) (snapshots facts)

-- ids don't fall along the list
abbrev pub RisesById : List AnyFact → Type 0
RisesById facts =
    IsSortedBy (λ x y. is_lt (option_cmp text_cmp (snapshot_id x) (snapshot_id y))) facts

-- the same snapshots, falling by the order of choosing
pub record IsFalling (given found : List SnapshotFact) : Type 0 where
  pub rising : List SnapshotFact
  pub same : IsPermutation given rising
  pub sorted : IsSorted fact_choice rising
  pub is : found ≡ reverse rising

-- the ids of a run, each with its snapshots
pub record AreGrouped (run : List AnyFact) (groups : List IdFacts) : Type 0 where
  pub ids_are : map (λ i. i.id.now) groups ≡ dedup bytes_eq (ids run)
  pub each : (i : IdFacts) → Contains groups i
      → IsFalling (snapshots (with_id i.id.now run)) (map (λ s. s.now) i.snapshots.items)
