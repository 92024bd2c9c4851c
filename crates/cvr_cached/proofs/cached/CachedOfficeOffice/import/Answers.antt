-- The facts of an accepted `file` may be taken in; the office then holds them joined to its own,
-- `new_facts` is by how many it grew, and the moves are those of the records changed.
use Rattle.std.proofs.Common.{ap, ◌∙◌, subst, List, length, ◌≡◌, ◌≤◌, ◌+◌, ◌*◌}
use Rattle.std.specs.FinSet.{union}
use Rattle.cdf_parts.specs.Places.{Contest}
use Rattle.cvr_office.specs.Readers.{growth}
use Rattle.cvr_office.specs.Plain.{set_of}
use Rattle.cvr_cached.specs.Held.{facts_of}
use Rattle.cvr_cached.specs.Moves.{move_count}
use Rattle.cvr_cached.proofs.Importing.{import_allowed, import_cached}
use Rattle.cvr_cached.proofs.cached.CachedOfficeOffice.import.Goals as goal

pub take_in-requires-clause-devices : goal.take_in-requires-clause-devices
take_in-requires-clause-devices c = rw c.deref.ensures.value c.in_ok-file.ensures.devices

pub take_in-requires-clause-allowed : goal.take_in-requires-clause-allowed
take_in-requires-clause-allowed c =
    rw c.deref.ensures.value
    (import_allowed c.self.inside.definition c.args.bytes.now _ c.in_ok-file.ensures.facts
    c.in_ok-file.ensures.spelled c.self.inside.store c.self.invariant c.in_ok-file.ensures.valid)

pub invariant_of-self-2 : goal.invariant_of-self-2
invariant_of-self-2 c =
    let taken = rw c.deref.ensures.value at c.take_in.ensures.taken in
    import_cached c.self.inside.definition c.args.bytes.now _ c.in_ok-file.ensures.facts
    c.in_ok-file.ensures.spelled c.take_in.result c.self.inside.store c.take_in.new.self
    c.self.invariant c.in_ok-file.ensures.valid taken c.take_in.ensures.unchanged

pub returns-clause-content : goal.returns-clause-content
returns-clause-content c =
    let taken = rw c.deref.ensures.value at c.in_ok-new_facts.ensures.taken in
    rw (← c.self.view_is)
    (taken.put.set ∙ ap (union (set_of (facts_of c.self.inside.store)))
    c.in_ok-file.ensures.facts)

pub returns-clause-new_facts : goal.returns-clause-new_facts
returns-clause-new_facts c =
    let taken = rw c.deref.ensures.value at c.in_ok-new_facts.ensures.taken in
    rw (← c.self.view_is)
    (taken.growth_is ∙ ap (growth (set_of (facts_of c.self.inside.store)))
    c.in_ok-file.ensures.facts)

pub returns-clause-moves : goal.returns-clause-moves
returns-clause-moves c =
    let before = set_of (facts_of c.self.inside.store) in
    let after = set_of (facts_of c.take_in.new.self) in
    rw (← c.self.view_is)
    (subst (λ (cs : List Contest). c.take_in.new.self.totals.moves
    ≡ c.self.inside.store.totals.moves + move_count cs before after)
    c.self.invariant.contests_are c.in_ok-new_facts.ensures.taken.moves_are)

pub returns-clause-moves_few : goal.returns-clause-moves_few
returns-clause-moves_few c =
    rw (← c.self.view_is)
    (subst (λ (cs : List Contest). c.take_in.new.self.totals.moves
    ≤ c.self.inside.store.totals.moves + 2 * length cs * c.in_ok-new_facts.new_facts)
    c.self.invariant.contests_are c.in_ok-new_facts.ensures.taken.moves_few)
