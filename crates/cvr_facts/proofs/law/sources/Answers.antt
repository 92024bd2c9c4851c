use Rattle.cvr_facts.proofs.Sources.{fact_source, device_listed, header_listed, snapshot_listed}
use Rattle.cvr_facts.proofs.Sources.{fact_held}
use Rattle.cvr_facts.proofs.Spelled.{spelled_told}
use Rattle.cvr_facts.proofs.law.sources.Goals as goal

pub returns : goal.returns
returns c = record {
  source = fact_source;
  devices = device_listed;
  headers = header_listed;
  snapshots = snapshot_listed;
  held = fact_held;
  spelled = spelled_told;
}
