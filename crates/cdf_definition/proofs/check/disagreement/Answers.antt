use Rattle.cdf_definition.proofs.Items.{first_or}
use Rattle.cdf_definition.proofs.check.disagreement.Goals as goal

pub returns-in-None-2 : goal.returns-in-None-2
returns-in-None-2 c =
    rw (
      first_or,
      first_or,
      ← c.elections.ensures,
      ← c.named_units.ensures,
      ← c.named_parties.ensures,
      ← c.in_ok-found.ensures,
      ← c.in_ok-found-in-None.ensures,
      c.in-None.is,
      c.in-None-2.is,
    ) c.first_differing-in-None-2.ensures
