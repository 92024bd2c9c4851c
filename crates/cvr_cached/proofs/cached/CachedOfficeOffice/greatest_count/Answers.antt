use Rattle.std.proofs.Common.{◌∙◌}
use Rattle.cvr_cached.proofs.Apart.{greatest_apart}
use Rattle.cvr_cached.proofs.cached.CachedOfficeOffice.greatest_count.Goals as goal

pub greatest_count_over-requires : goal.greatest_count_over-requires
greatest_count_over-requires c = rw c.deref.ensures.value c.store.invariant.own.devices_rise

pub returns : goal.returns
returns c =
    let told = rw c.deref.ensures.value at c.greatest_count_over.ensures in
    rw (← c.self.view_is, ← c.store.view_is)
    (told ∙ greatest_apart c.store.inside.devices.items c.store.inside.records.entries
    c.store.invariant.own)
