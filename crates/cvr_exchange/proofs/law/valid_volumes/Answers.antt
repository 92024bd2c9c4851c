use Rattle.cvr_exchange.proofs.Valid.{valid, valid_for_same}
use Rattle.cvr_exchange.proofs.law.valid_volumes.Goals as goal

pub returns : goal.returns
returns c = record { own = valid; same = valid_for_same }
