-- Which files have reached which office, by the events and their outcomes, and what an office then
-- holds. (This project's own.)
use Rattle.std.specs.Prelude.{◌≡◌, ◌⊎◌, ◌↔◌, ◌==◌, ℕ, true, if◌then◌else◌, List, [], ◌∷◌, ◌++◌}
use Rattle.std.specs.Prelude.{slice_index_or, reverse}
use Rattle.std.specs.List.{zip}
use Rattle.std.specs.declared.cmp.Ordering.{Ordering}
use Rattle.std.specs.Ordering.{nat_cmp, on}
use Rattle.std.specs.Cmp.Lexicographic.{slice_cmp}
use Rattle.std.specs.FinSet.{FinSet, empty, union, insert, from_list, items, contains}
use Rattle.cvr_fact_types.specs.Facts.{Facts}
use Rattle.cvr_facts.specs.Reports.{facts}
use Rattle.cvr_office.specs.declared.event.Event.{Event}
use Rattle.cvr_office.specs.declared.event.Event.TheVariants.{Import, Exchange}
use Rattle.cvr_office.specs.declared.event.Outcome.{Outcome}
use Rattle.cvr_office.specs.declared.event.Outcome.TheVariants.{Accepted, Refused}

-- where facts come from: what an office held at first, or a file, each by its place
pub data Origin : Type 0 where
  Start : (office : ℕ) → Origin
  File : (file : ℕ) → Origin

-- an origin as numbers, to keep sets of them: their order means nothing
abbrev pub origin_numbers : Origin → List ℕ
origin_numbers (Start o) = o ∷ []
origin_numbers (File f) = f ∷ f ∷ []

abbrev pub origin_cmp : Origin → Origin → Ordering
origin_cmp = on origin_numbers (slice_cmp nat_cmp)

abbrev pub Origins : Type 0
Origins = FinSet origin_cmp

-- events with their outcomes, the newest first
abbrev pub History : Type 0
History = List (Event × Outcome)

abbrev pub history : List Event → List Outcome → History
history events outcomes = reverse (zip events outcomes)

-- what has reached the office o after one more event, where `before` says what had reached each
abbrev pub origins_after : Event → Outcome → (ℕ → Origins) → ℕ → Origins
origins_after (Import office file) (Accepted n) before o =
    if o == office then insert (before o) (File file) else before o
origins_after (Import office file) (Refused cause) before o = before o
origins_after (Exchange from to) (Accepted n) before o =
    if o == to then union (before o) (before from) else before o
origins_after (Exchange from to) (Refused cause) before o = before o

-- what has reached the office o: itself, and the files and starting offices that events brought
abbrev pub origins_at : History → ℕ → Origins
origins_at [] o = from_list (Start o ∷ [])
origins_at (e ∷ past) o = origins_after e.0 e.1 (origins_at past) o

-- the facts of an origin
abbrev pub origin_facts : List Facts → List (List ℕ) → Origin → Facts
origin_facts starts files (Start o) = slice_index_or starts o empty
origin_facts starts files (File f) = facts (slice_index_or files f [])

-- the union over a list
abbrev pub union_over : {X : Type 0} → (X → Facts) → List X → Facts
union_over f [] = empty
union_over f (x ∷ xs) = union (f x) (union_over f xs)

-- what the office o holds: the facts of all that has reached it
abbrev pub content : List Facts → List (List ℕ) → History → ℕ → Facts
content starts files past o = union_over (origin_facts starts files) (items (origins_at past o))

-- ---- the way of a file

-- an accepted exchange from m to o
abbrev pub IsHop : Event × Outcome → ℕ → ℕ → Type 0
IsHop e m o = (n : ℕ) × (e ≡ (Exchange m o, Accepted n))

-- accepted exchanges, one after the other, lead from p to o; the newest event stands first
abbrev pub Leads : History → ℕ → ℕ → Type 0
Leads [] p o = p ≡ o
Leads (e ∷ past) p o = Leads past p o ⊎ ((m : ℕ) × Leads past p m × IsHop e m o)

-- an accepted import of the file f, and after it exchanges that lead to o
pub record Came (past : History) (f o : ℕ) : Type 0 where
  pub later : History
  pub earlier : History
  pub into : ℕ
  pub count : ℕ
  pub split : past ≡ later ++ (Import into f, Accepted count) ∷ earlier
  pub leads : Leads later into o

-- a file has reached an office exactly where it came to it
abbrev pub ReachLaw : Type 0
ReachLaw = (past : History) (f o : ℕ) → (contains (origins_at past o) (File f) ≡ true)
    ↔ Came past f o
