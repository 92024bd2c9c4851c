use Rattle.cvr_office.proofs.Included.{known_device, device_known, includes}
use Rattle.cvr_office.proofs.RecordNames.{header_under, snapshot_under, id_under}
use Rattle.cvr_office.proofs.law.facts_under_names.Goals as goal

pub returns : goal.returns
returns c = record {
  headers = header_under;
  snapshots = snapshot_under;
  ids = id_under;
  known = known_device;
  devices = device_known;
  more = includes;
}
