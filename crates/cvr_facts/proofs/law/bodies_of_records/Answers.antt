use Rattle.cvr_facts.proofs.Records.{contains_iff, Contains-header_bodies, Contains-snapshot_bodies}
use Rattle.cvr_facts.proofs.law.bodies_of_records.Goals as goal

pub returns : goal.returns
returns c = record {
  items = contains_iff;
  headers = Contains-header_bodies;
  snapshots = Contains-snapshot_bodies;
}
