use Rattle.cdf_parts.proofs.PartLaws.{part_reads_back, listed_reads_back}
use Rattle.cdf_parts.proofs.text_law.part_reads_back.Goals as goal

pub returns-clause-part : goal.returns-clause-part
returns-clause-part c = part_reads_back

pub returns-clause-listed : goal.returns-clause-listed
returns-clause-listed c = listed_reads_back
