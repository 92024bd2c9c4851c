use Rattle.std.proofs.Common.{sym, ◌∙◌}
use Rattle.cdf_definition.proofs.Gathered.{texts_of-zip}
use Rattle.cdf_definition.proofs.named.Named.bodies.Goals as goal

pub returns : goal.returns
returns c = let n = c.self.inside in c.deref.ensures.value
    ∙ rw (← c.self.view_is) (sym (texts_of-zip n.ids n.bodies.items c.self.invariant))
