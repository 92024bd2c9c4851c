use Rattle.std.proofs.Common.{◌∙◌, sym}
use Rattle.cvr_plain.proofs.Lists.{same_iff}
use Rattle.cvr_plain.proofs.plain.PlainOfficeOffice.same.Goals as goal

pub returns-then-eq : goal.returns-then-eq
returns-then-eq c =
    let iff = same_iff c.self.inside.facts.items c.other.inside.facts.items c.self.invariant.rises
    c.other.invariant.rises in
    rw (← c.self.view_is, ← c.other.view_is)
    (λ e. (c.same.ensures.0 e, iff.0 (sym c.if-eq.ensures)), λ both. c.same.ensures.1 both.0)

pub returns-else-eq : goal.returns-else-eq
returns-else-eq c =
    let iff = same_iff c.self.inside.facts.items c.other.inside.facts.items c.self.invariant.rises
    c.other.invariant.rises in
    rw (← c.self.view_is, ← c.other.view_is)
    (λ e. cc, λ both. absurd (let bad = c.if-eq.ensures ∙ iff.1 both.1 in cc))
