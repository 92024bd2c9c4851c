use Rattle.cdf_form.proofs.Listings.{snapshot_kind_list, cvr_status_list, contest_status_list}
use Rattle.cdf_form.proofs.Listings.{selection_status_list, position_status_list, indication_list}
use Rattle.cdf_form.proofs.Listings.{allocation_list, report_kind_list, vote_variation_list}
use Rattle.cdf_form.proofs.law.listed_texts.Goals as goal

pub returns : goal.returns
returns c = record {
  snapshot_kind = snapshot_kind_list;
  cvr_status = cvr_status_list;
  contest_status = contest_status_list;
  selection_status = selection_status_list;
  position_status = position_status_list;
  indication = indication_list;
  allocation = allocation_list;
  report_kind = report_kind_list;
  vote_variation = vote_variation_list;
}
