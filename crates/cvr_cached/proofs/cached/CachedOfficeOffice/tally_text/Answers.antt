use Rattle.std.proofs.Common.{◌∙◌, ap}
use Rattle.cvr_tally.specs.Text.{tally_text}
use Rattle.cvr_office.specs.Plain.{set_of}
use Rattle.cvr_office.specs.Tallied.{rows}
use Rattle.cvr_cached.specs.Contents.{fact_list}
use Rattle.cvr_cached.proofs.cached.CachedOfficeOffice.tally_text.Goals as goal

pub returns : goal.returns
returns c =
    let cached = rw (← c.store.view_is) at c.self.invariant in
    let s = set_of (fact_list c.store.inside.devices.items c.store.inside.records.entries) in
    let is = c.store.invariant.rows_are ∙ ap (λ cs. rows cs s) cached.contests_are in
    rw (← c.self.view_is, ← c.store.view_is)
    (c.in_ok-text.ensures ∙ (λ i. tally_text (cached.contests_are i) (is i)))
