use Rattle.cvr_whole.proofs.Lines.{one_reading}
use Rattle.cvr_whole.proofs.law.one_reading.Goals as goal

pub returns : goal.returns
returns c = one_reading
