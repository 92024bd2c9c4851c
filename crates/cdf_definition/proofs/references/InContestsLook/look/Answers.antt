use Rattle.cdf_definition.proofs.references.InContestsLook.look.Goals as goal

pub returns : goal.returns
returns c = rw (← c.items_at.ensures, ← c.in_ok-candidates.ensures) c.look.ensures
