use Rattle.cdf_node.specs.View.{view}
use Rattle.cdf_definition.proofs.Sounding.{sound}
use Rattle.cdf_definition.proofs.definition.Definition.read.Goals as goal

pub returns-clause-sound : goal.returns-clause-sound
returns-clause-sound c =
    let d = view c.in_ok-value.value in
    (d, c.in_ok-value.ensures.value, (sound d).0 c.in_ok-value.ensures.sound)
