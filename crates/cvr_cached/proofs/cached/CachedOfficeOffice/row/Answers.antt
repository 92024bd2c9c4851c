use Rattle.std.proofs.Common.{Some, ap, sym, subst, ◌∙◌}
use Rattle.std.specs.FinMap.{get}
use Rattle.std.specs.Option.{IfSome}
use Rattle.cvr_office.specs.Plain.{set_of}
use Rattle.cvr_office.specs.Tallied.{rows, total_limit, IsBelow}
use Rattle.cvr_office.proofs.Laws.{rows_law}
use Rattle.cvr_cached.specs.Contents.{fact_list}
use Rattle.cvr_cached.proofs.Bounds.{all_below}
use Rattle.cvr_cached.proofs.cached.CachedOfficeOffice.row.Goals as goal

pub returns-in_ok-copy-in-Some-clause-row : goal.returns-in_ok-copy-in-Some-clause-row
returns-in_ok-copy-in-Some-clause-row c =
    let cached = rw (← c.store.view_is) at c.self.invariant in
    let key = c.args.key.now in
    let s = set_of (fact_list c.store.inside.devices.items c.store.inside.records.entries) in
    let is = c.store.invariant.rows_are ∙ ap (λ cs. rows cs s) cached.contests_are in
    rw (← c.self.view_is, ← c.store.view_is)
    (ap Some c.in_ok-copy-in-Some.ensures
    ∙ (c.in-Some.ensures ∙ (ap (λ m. get m key) is
    ∙ rows_law c.self.inside.definition.contests s key)))

pub returns-in_ok-copy-in-Some-clause-below : goal.returns-in_ok-copy-in-Some-clause-below
returns-in_ok-copy-in-Some-clause-below c =
    let cached = rw (← c.store.view_is) at c.self.invariant in
    subst (λ found. IfSome found (IsBelow total_limit))
    (sym (ap Some c.in_ok-copy-in-Some.ensures ∙ c.in-Some.ensures))
    (all_below c.self.inside.definition _ _ c.store.invariant cached c.args.key.now)

pub returns-in-None-clause-row : goal.returns-in-None-clause-row
returns-in-None-clause-row c =
    let cached = rw (← c.store.view_is) at c.self.invariant in
    let key = c.args.key.now in
    let s = set_of (fact_list c.store.inside.devices.items c.store.inside.records.entries) in
    let is = c.store.invariant.rows_are ∙ ap (λ cs. rows cs s) cached.contests_are in
    rw (← c.self.view_is, ← c.store.view_is)
    (c.in-None.ensures ∙ (ap (λ m. get m key) is
    ∙ rows_law c.self.inside.definition.contests s key))
