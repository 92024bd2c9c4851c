use Rattle.std.proofs.Common.{◌≡◌, subst}
use Rattle.std.specs.Prelude.{IfOk}
use Rattle.cvr_cached.proofs.Apart.{conflicts_apart}
use Rattle.cvr_cached.proofs.cached.CachedOfficeOffice.conflicts.Goals as goal

pub conflicts_over-requires : goal.conflicts_over-requires
conflicts_over-requires c = rw c.deref.ensures.value c.store.invariant.own.devices_rise

pub returns : goal.returns
returns c =
    let d = c.store.inside.devices.items in
    let es = c.store.inside.records.entries in
    let told = rw c.deref.ensures.value at c.conflicts_over.ensures in
    rw (← c.self.view_is, ← c.store.view_is)
    (subst (λ cs. IfOk c.conflicts_over.result (λ list. list ≡ cs))
    (conflicts_apart d es c.store.invariant.own) told)
