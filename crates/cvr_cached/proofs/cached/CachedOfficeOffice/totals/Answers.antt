use Rattle.std.proofs.Common.{◌∙◌, ap, sym, subst}
use Rattle.std.specs.FinMap.{get}
use Rattle.std.specs.Option.{IfSome}
use Rattle.cvr_tally.specs.Rows.{Rows}
use Rattle.cvr_office.specs.Plain.{set_of}
use Rattle.cvr_office.specs.Tallied.{rows, total_limit, IsBelow}
use Rattle.cvr_cached.specs.Contents.{fact_list}
use Rattle.cvr_cached.proofs.Bounds.{all_below}
use Rattle.cvr_cached.proofs.cached.CachedOfficeOffice.totals.Goals as goal

pub returns-clause-rows : goal.returns-clause-rows
returns-clause-rows c =
    let cached = rw (← c.store.view_is) at c.self.invariant in
    let s = set_of (fact_list c.store.inside.devices.items c.store.inside.records.entries) in
    rw (← c.self.view_is, ← c.store.view_is)
    (ap (λ t. t.rows) c.in_ok-totals.ensures
    ∙ (c.store.invariant.rows_are ∙ ap (λ cs. rows cs s) cached.contests_are))

pub returns-clause-contests : goal.returns-clause-contests
returns-clause-contests c =
    let cached = rw (← c.store.view_is) at c.self.invariant in
    rw (← c.self.view_is) (ap (λ t. t.contests) c.in_ok-totals.ensures ∙ cached.contests_are)

pub returns-clause-below : goal.returns-clause-below
returns-clause-below c q =
    let cached = rw (← c.store.view_is) at c.self.invariant in
    subst (λ (m : Rows). IfSome (get m q) (IsBelow total_limit))
    (sym (ap (λ t. t.rows) c.in_ok-totals.ensures))
    (all_below c.self.inside.definition _ _ c.store.invariant cached q)
