use Rattle.std.proofs.Common.{sym}
use Rattle.cdf_definition.proofs.Gathered.{ids_of-zip}
use Rattle.cdf_definition.proofs.named.Named.ids.Goals as goal

pub returns : goal.returns
returns c = let n = c.self.inside in rw (← c.self.view_is)
    (sym (ids_of-zip n.ids n.bodies.items c.self.invariant))
