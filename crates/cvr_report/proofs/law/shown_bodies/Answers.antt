use Rattle.cvr_report.proofs.Kept.{shown_listed, headed, id_shows}
use Rattle.cvr_report.proofs.Picking.{shown_at}
use Rattle.cvr_report.proofs.law.shown_bodies.Goals as goal

pub returns : goal.returns
returns c = record { listed = shown_listed; at = shown_at; headers = headed; snapshots = id_shows }
