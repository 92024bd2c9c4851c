use Rattle.cvr_exchange.proofs.Histories.{accepted, imports_exchange}
use Rattle.cvr_exchange.proofs.Among.{among, all_among}
use Rattle.cvr_exchange.proofs.law.imports.Goals as goal

pub returns : goal.returns
returns c = record {
  accepted = accepted;
  exchange = imports_exchange;
  among = among;
  all_among = all_among;
}
