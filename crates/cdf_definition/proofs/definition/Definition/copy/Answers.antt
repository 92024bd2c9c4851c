use Rattle.cdf_definition.proofs.definition.Definition.copy.Goals as goal

pub invariant_of-result : goal.invariant_of-result
invariant_of-result c = rw (
  c.in_ok-copy.ensures,
  c.in_ok-copy-2.ensures,
  c.in_ok-copy-3.ensures,
  c.in_ok-copy-4.ensures,
  c.in_ok-copy-5.ensures,
  c.in_ok-clone.ensures.cases,
) c.self.invariant
