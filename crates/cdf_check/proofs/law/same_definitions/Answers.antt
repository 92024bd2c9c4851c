use Rattle.cdf_check.proofs.SameDefinition.{same_texts, same_definitions, one_definition}
use Rattle.cdf_check.proofs.law.same_definitions.Goals as goal

pub returns : goal.returns
returns c = record { texts = same_texts; equal = same_definitions; one = one_definition }
