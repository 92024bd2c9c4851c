use Rattle.cvr_run.proofs.CodeWords.{explain_unknown, help_unknown}
use Rattle.cvr_run.proofs.law.words_for_a_code_name_no_command.Goals as goal

pub returns : goal.returns
returns c = record { explain = explain_unknown; help = help_unknown }
