use Rattle.cvr_run.proofs.OpenerExamples.{four_shown, missing_reported}
use Rattle.cvr_run.proofs.examples.openers_show_what_they_were_to_open.Goals as goal

pub returns : goal.returns
returns c = record { four = four_shown; missing = missing_reported }
