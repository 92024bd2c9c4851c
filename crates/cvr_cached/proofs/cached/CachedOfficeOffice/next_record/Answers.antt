use Rattle.std.proofs.Common.{◌∙◌, sym, ap, option_map}
use Rattle.cvr_fact_types.specs.Facts.{name_cmp}
use Rattle.cvr_office.specs.Readers.{next}
use Rattle.cvr_cached.proofs.Answering.{records_are}
use Rattle.cvr_cached.proofs.cached.CachedOfficeOffice.next_record.Goals as goal

pub returns : goal.returns
returns c =
    let after = option_map (λ k. k.now) c.args.after in
    rw (← c.self.view_is, ← c.store.view_is)
    (c.next_over.ensures ∙ ap (λ ks. next name_cmp ks after)
    (sym (records_are c.store.inside.devices.items c.store.inside.records.entries
    c.store.invariant.own)))
