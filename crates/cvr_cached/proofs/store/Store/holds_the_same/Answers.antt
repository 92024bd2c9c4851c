use Rattle.std.proofs.Common.{sym, ◌∙◌}
use Rattle.std.proofs.lemmas.Bool.{false≢true}
use Rattle.cvr_cached.proofs.SameContents.{same_all}
use Rattle.cvr_cached.proofs.store.Store.holds_the_same.Goals as goal

pub returns-then-eq : goal.returns-then-eq
returns-then-eq c =
    let iff = same_all c.self.inside.devices.items c.other.inside.devices.items
    c.self.inside.records.entries c.other.inside.records.entries c.self.invariant.own
    c.other.invariant.own in
    rw (← c.self.view_is, ← c.other.view_is) (
      λ e. iff.0 (sym c.eq.ensures ∙ c.if-eq.true, sym c.eq-then-eq.ensures ∙ e),
      λ same.
          c.eq-then-eq.ensures ∙ (iff.1 same).1,
    )

pub returns-else-eq : goal.returns-else-eq
returns-else-eq c =
    let iff = same_all c.self.inside.devices.items c.other.inside.devices.items
    c.self.inside.records.entries c.other.inside.records.entries c.self.invariant.own
    c.other.invariant.own in
    rw (← c.self.view_is, ← c.other.view_is) (
      λ e. absurd (false≢true (sym c.if-eq.false ∙ e)),
      λ same.
          absurd (false≢true (sym c.if-eq.false ∙ (c.eq.ensures ∙ (iff.1 same).0))),
    )
