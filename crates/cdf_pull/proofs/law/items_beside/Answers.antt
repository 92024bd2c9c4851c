use Rattle.cdf_pull.proofs.Beside.{beside}
use Rattle.cdf_pull.proofs.law.items_beside.Goals as goal

pub returns : goal.returns
returns c = beside
