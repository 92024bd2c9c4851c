use Rattle.cvr_office.proofs.InParts.{rows_of_many, currents_of_many, headers_of_many}
use Rattle.cvr_office.proofs.InParts.{records_of_many}
use Rattle.cvr_office.proofs.law.many_parts.Goals as goal

pub returns : goal.returns
returns c = record {
  rows = rows_of_many;
  currents = currents_of_many;
  headers = headers_of_many;
  records = records_of_many;
}
