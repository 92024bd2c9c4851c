-- Facts taken into what is kept. (This project's own.)
use Rattle.std.specs.Prelude.{◌≡◌, ◌↔◌, ◌≤◌, ◌+◌, ◌*◌, ℕ, List, length, Some, None}
use Rattle.std.specs.List.{Contains}
use Rattle.cvr_fact_types.specs.declared.name.RecordName.{RecordName}
use Rattle.cvr_office.specs.declared.any_fact.AnyFact.{AnyFact}
use Rattle.cvr_office.specs.Names.{record_of}
use Rattle.cvr_office.specs.Place.{fact_of}
use Rattle.cvr_office.specs.Plain.{set_of, IsPut}
use Rattle.cvr_office.specs.Readers.{growth}
use Rattle.cvr_cached.specs.declared.plan.Plan.{Plan}
use Rattle.cvr_cached.specs.Contents.{content_at}
use Rattle.cvr_cached.specs.Held.{Stored, facts_of, CanTake}
use Rattle.cvr_cached.specs.Moves.{move_count}
use Rattle.cvr_cached.specs.Plans.{IsPlan}

-- what comes, split: the facts of devices, and those of each record
pub record AreSplit (more devices : List AnyFact) (group : RecordName → List AnyFact) : Type 0 where
  pub devices_are : (f : AnyFact) → Contains devices f
      ↔ (Contains more f × (record_of (fact_of f) ≡ None))
  pub groups_are : (k : RecordName) (f : AnyFact)
      → Contains (group k) f ↔ (Contains more f × (record_of (fact_of f) ≡ Some k))

-- these devices are those of what comes, and the plan is for its records
pub record IsPlanOf (s : Stored) (more devices : List AnyFact) (plan : Plan) : Type 0 where
  pub allowed : CanTake s more
  pub group : RecordName → List AnyFact
  pub apart : AreSplit more devices group
  pub planned : IsPlan (content_at s.records) group plan

-- all that came was put in, so many facts of it were new, and rows were changed as often as records
-- that gain facts need
pub record IsTaken (old : Stored) (more : List AnyFact) (new : Stored)
    (new_facts : ℕ) : Type 0 where
  pub put : IsPut (facts_of old) more (facts_of new)
  pub growth_is : new_facts ≡ growth (set_of (facts_of old)) (set_of more)
  pub contests_are : new.totals.contests ≡ old.totals.contests
  pub moves_are : new.totals.moves ≡ old.totals.moves
      + move_count old.totals.contests (set_of (facts_of old)) (set_of (facts_of new))
  pub moves_few : new.totals.moves ≤ old.totals.moves + 2 * length old.totals.contests * new_facts
