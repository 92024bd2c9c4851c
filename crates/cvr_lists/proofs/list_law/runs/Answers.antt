use Rattle.cvr_lists.proofs.OneRecord.{header_is, current_is}
use Rattle.cvr_lists.proofs.RecordGroups.{rises_by_id}
use Rattle.cvr_office.proofs.Lemmas.{records_rise}
use Rattle.cvr_lists.proofs.WholeRecord.{none_of, facts_are}
use Rattle.cvr_lists.proofs.list_law.runs.Goals as goal

pub returns : goal.returns
returns c = record {
  header = header_is;
  current = current_is;
  ids = rises_by_id;
  records = records_rise;
  none = none_of;
  whole = facts_are;
}
