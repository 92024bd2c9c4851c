use Rattle.cvr_lists.proofs.Puts.{put_growth}
use Rattle.cvr_lists.proofs.PlainLists.{spelled_put}
use Rattle.cvr_lists.proofs.SameFacts.{same_facts}
use Rattle.cvr_lists.proofs.list_law.putting.Goals as goal

pub returns : goal.returns
returns c = record {
  same = same_facts;
  growth = put_growth;
  spelled = spelled_put;
}
