-- Laws of what offices keep true, of the next name, and of rows. (This project's own.)
use Rattle.std.specs.Prelude.{◌≡◌, ◌≢◌, ◌↔◌, ◌<◌, ℕ, List, length, true, Option, Some, None, ⊤}
use Rattle.std.specs.List.{Contains, filter}
use Rattle.std.specs.declared.cmp.Ordering.{Ordering}
use Rattle.std.specs.declared.cmp.Ordering.TheVariants.{Less, Greater}
use Rattle.std.specs.FinMap.{get}
use Rattle.std.specs.FinSet.{contains, union}
use Rattle.cdf_parts.specs.Places.{Contest}
use Rattle.cdf_definition.specs.Frame.{Frame, IsSame}
use Rattle.cdf_definition.specs.Sound.{IsFrame}
use Rattle.cdf_definition.specs.Acceptance.{Valid}
use Rattle.cvr_fact_types.specs.Facts.{Fact, Facts}
use Rattle.cvr_facts.specs.Reports.{facts}
use Rattle.cvr_office.specs.Names.{records}
use Rattle.cvr_office.specs.Readers.{next}
use Rattle.cvr_office.specs.CanHold.{CanHold, starting_content}
use Rattle.cvr_tally.specs.declared.key.RowKey.{RowKey}
use Rattle.cvr_tally.specs.declared.row.Row.{Row}
use Rattle.cvr_office.specs.Tallied.{row, rows, stands_in}

-- ---- what offices keep

-- what an office keeps true of its facts holds of a new one, and after the import of a valid file,
-- and after the join with an office of the same definition that keeps it
abbrev pub StartLaw : Type 0
StartLaw = (frame : Frame) → IsFrame frame → CanHold frame (starting_content frame)

abbrev pub ImportLaw : Type 0
ImportLaw = (frame : Frame) (s : Facts) (bytes : List ℕ) → Valid frame bytes → CanHold frame s
    → CanHold frame (union s (facts bytes))

abbrev pub JoinLaw : Type 0
JoinLaw = (frame other : Frame) (s t : Facts) → IsSame frame other → CanHold frame s
    → CanHold other t → CanHold frame (union s t)

-- ---- names in order

-- what is listed of facts is exactly what `stated` says of one of them
abbrev pub ListedLaw : {K : Type 0} → (Fact → Option K) → (Facts → List K) → Type 0
ListedLaw {K} stated list = (s : Facts) (k : K)
    → Contains (list s) k ↔ ((f : Fact) × (contains s f ≡ true) × (stated f ≡ Some k))

-- above a given one, or any where none is given
abbrev pub IsAbove : {K : Type 0} → (K → K → Ordering) → Option K → K → Type 0
IsAbove R None k = ⊤
IsAbove R (Some given) k = R k given ≡ Greater

-- one of the list above the given one, and none of these is less
pub record IsLeastAbove {K : Type 0} (R : K → K → Ordering) (ks : List K) (after : Option K)
    (k : K) : Type 0 where
  pub listed : Contains ks k
  pub above : IsAbove R after k
  pub least : (other : K) → Contains ks other → IsAbove R after other → R other k ≢ Less

-- the next one is the least above the given one, or the least of all
abbrev pub NextLaw : {K : Type 0} → (K → K → Ordering) → (Facts → List K) → Type 0
NextLaw {K} R list = (s : Facts) (after : Option K) (k : K)
    → (next R (list s) after ≡ Some k) ↔ IsLeastAbove R (list s) after k

-- there is none exactly where none is above it
abbrev pub NoNextLaw : {K : Type 0} → (K → K → Ordering) → (Facts → List K) → Type 0
NoNextLaw {K} R list = (s : Facts) (after : Option K)
    → (next R (list s) after ≡ None) ↔ ((k : K) → Contains (list s) k → ¬ IsAbove R after k)

-- ---- rows

-- the map of rows has each row under its key, and nothing else
abbrev pub RowsLaw : Type 0
RowsLaw = (contests : List Contest) (s : Facts) (q : RowKey)
    → get (rows contests s) q ≡ row contests s q

-- the ballots of a row are the records that stand in it, of which there is at least one
abbrev pub BallotsLaw : Type 0
BallotsLaw =
    (contests : List Contest) (s : Facts) (q : RowKey) (r : Row) → row contests s q ≡ Some r
    → (r.ballots ≡ length (filter (stands_in contests s q) (records s))) × (0 < r.ballots)
