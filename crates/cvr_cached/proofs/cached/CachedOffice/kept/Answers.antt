use Rattle.std.proofs.Common.{ap, ◌∙◌}
use Rattle.cvr_office.specs.Plain.{set_of}
use Rattle.cvr_office.specs.Tallied.{rows}
use Rattle.cvr_cached.specs.Contents.{fact_list}
use Rattle.cvr_cached.proofs.Bounds.{all_below}
use Rattle.cvr_cached.proofs.cached.CachedOffice.kept.Goals as goal

pub returns-clause-rows : goal.returns-clause-rows
returns-clause-rows c =
    let cached = rw (← c.store.view_is) at c.self.invariant in
    rw (← c.self.view_is, ← c.store.view_is)
    (c.store.invariant.rows_are ∙ ap (λ cs.
    rows cs (set_of (fact_list c.store.inside.devices.items c.store.inside.records.entries)))
    cached.contests_are)

pub returns-clause-contests : goal.returns-clause-contests
returns-clause-contests c =
    let cached = rw (← c.store.view_is) at c.self.invariant in
    rw (← c.self.view_is) cached.contests_are

pub returns-clause-below : goal.returns-clause-below
returns-clause-below c =
    let cached = rw (← c.store.view_is) at c.self.invariant in
    all_below c.self.inside.definition _ _ c.store.invariant cached
