use Rattle.cvr_office.proofs.AnsweredAlike.{same_offices, answer_alike}
use Rattle.cvr_office.proofs.law.same_offices.Goals as goal

pub returns : goal.returns
returns c = record { alike = same_offices; answers = answer_alike }
