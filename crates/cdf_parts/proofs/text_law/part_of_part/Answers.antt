use Rattle.cdf_parts.proofs.PartLaws.{part_of_part, listed_part}
use Rattle.cdf_parts.proofs.Lengths.{part_short, items_short}
use Rattle.cdf_parts.proofs.text_law.part_of_part.Goals as goal

pub returns-clause-part : goal.returns-clause-part
returns-clause-part c = part_of_part

pub returns-clause-listed : goal.returns-clause-listed
returns-clause-listed c = listed_part

pub returns-clause-shorter : goal.returns-clause-shorter
returns-clause-shorter c = part_short

pub returns-clause-fewer : goal.returns-clause-fewer
returns-clause-fewer c = items_short
