use Rattle.cvr_facts.proofs.Laws.{text_total, text_exact}
use Rattle.cvr_office.specs.Names.{record_of, device_in}
use Rattle.cvr_office.proofs.Runs.{name_total}
use Rattle.cvr_office.proofs.RecordMembers.{name_exact}
use Rattle.cvr_office.proofs.NextLaws.{listed, next_is_least, no_next}
use Rattle.cvr_office.proofs.law.next_names.Goals as goal

pub returns : goal.returns
returns c = record {
  records = listed name_total name_exact record_of;
  next_record = next_is_least name_total name_exact record_of;
  no_record = no_next name_total name_exact record_of;
  devices = listed text_total text_exact device_in;
  next_device = next_is_least text_total text_exact device_in;
  no_device = no_next text_total text_exact device_in;
}
