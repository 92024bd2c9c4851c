use Rattle.cvr_office.proofs.InParts.{rows, currents, headers, records_of_parts, rise}
use Rattle.cvr_office.proofs.law.parts.Goals as goal

pub returns : goal.returns
returns c = record {
  rows = rows;
  currents = currents;
  headers = headers;
  records = records_of_parts;
  order = rise;
}
