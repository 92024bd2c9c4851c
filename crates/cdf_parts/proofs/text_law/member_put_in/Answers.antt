use Rattle.serde_json.proofs.Views.{get_member-put, get_member-put_other}
use Rattle.cdf_parts.proofs.text_law.member_put_in.Goals as goal

pub returns-clause-found : goal.returns-clause-found
returns-clause-found c = get_member-put

pub returns-clause-others : goal.returns-clause-others
returns-clause-others c = get_member-put_other
