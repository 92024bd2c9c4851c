use Rattle.cvr_office.proofs.Lemmas.{row_over-more}
use Rattle.cvr_office.proofs.Lemmas.{added_is, added_sums-no_header, added_sums-no_current}
use Rattle.cvr_lists.proofs.list_law.added.Goals as goal

pub returns : goal.returns
returns c = record {
  row = row_over-more;
  sums = added_is;
  no_header = added_sums-no_header;
  no_current = added_sums-no_current;
}
