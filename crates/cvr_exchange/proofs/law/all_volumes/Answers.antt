use Rattle.cvr_exchange.proofs.AllVolumes.{none_added, all_volumes, any_order}
use Rattle.cvr_exchange.proofs.law.all_volumes.Goals as goal

pub returns : goal.returns
returns c = record { none_added = none_added; all = all_volumes; any_order = any_order }
