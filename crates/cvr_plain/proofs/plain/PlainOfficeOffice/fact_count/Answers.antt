use Rattle.std.proofs.Common.{sym, ◌∙◌}
use Rattle.cvr_plain.proofs.Lists.{len-set_of}
use Rattle.cvr_plain.proofs.plain.PlainOfficeOffice.fact_count.Goals as goal

pub returns : goal.returns
returns c = rw (← c.self.view_is) (c.len.ensures
    ∙ (c.self.inside.facts.ok.0 ∙ sym (len-set_of _ _ c.self.invariant)))
