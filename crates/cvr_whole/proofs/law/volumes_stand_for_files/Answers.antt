use Rattle.cvr_whole.proofs.Volumes.{volumes_hold, volumes_text}
use Rattle.cvr_whole.proofs.law.volumes_stand_for_files.Goals as goal

pub returns : goal.returns
returns c = record { hold = volumes_hold; text = volumes_text }
