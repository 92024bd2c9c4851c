use Rattle.cdf_parts.proofs.PartLaws.{member_proper, item_proper, part_proper, proper_deeper}
use Rattle.cdf_parts.proofs.text_law.part_is_proper.Goals as goal

pub returns-clause-member : goal.returns-clause-member
returns-clause-member c = member_proper

pub returns-clause-item : goal.returns-clause-item
returns-clause-item c = item_proper

pub returns-clause-part : goal.returns-clause-part
returns-clause-part c = part_proper

pub returns-clause-deeper : goal.returns-clause-deeper
returns-clause-deeper c = proper_deeper
