use Rattle.cvr_office.proofs.NameOrder.{conflict_total, conflict_exact}
use Rattle.cvr_office.proofs.Runs.{name_total}
use Rattle.cvr_office.proofs.RecordMembers.{name_exact}
use Rattle.cvr_office.proofs.law.names_are_ordered.Goals as goal

pub returns : goal.returns
returns c = record {
  records = name_total;
  exact_records = name_exact;
  names = conflict_total;
  exact_names = conflict_exact;
}
