use Rattle.cdf_definition.proofs.Kept.{is_kept}
use Rattle.cdf_definition.proofs.law.header_members.Goals as goal

pub returns : goal.returns
returns c = is_kept
