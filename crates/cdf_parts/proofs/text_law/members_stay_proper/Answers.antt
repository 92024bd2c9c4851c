use Rattle.cdf_parts.proofs.Removing.{without_proper, put_proper, without_well, whole-without}
use Rattle.cdf_parts.proofs.text_law.members_stay_proper.Goals as goal

pub returns-clause-without : goal.returns-clause-without
returns-clause-without c = without_proper

pub returns-clause-put : goal.returns-clause-put
returns-clause-put c = put_proper

pub returns-clause-well : goal.returns-clause-well
returns-clause-well c = without_well

pub returns-clause-whole : goal.returns-clause-whole
returns-clause-whole c = whole-without
