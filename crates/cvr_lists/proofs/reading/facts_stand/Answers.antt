use Rattle.cvr_office.proofs.Lemmas.{facts_stand}
use Rattle.cvr_office.proofs.Lemmas.{records_whole}
use Rattle.cvr_lists.proofs.reading.facts_stand.Goals as goal

pub returns : goal.returns
returns c = record { bodies = facts_stand; records = records_whole }
