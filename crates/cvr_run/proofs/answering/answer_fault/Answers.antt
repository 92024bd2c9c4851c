use Rattle.std.proofs.Common.{refl, rules}
use Rattle.cvr_run.proofs.Unasked.{help_told, quiet_told}
use Rattle.cvr_run.proofs.answering.answer_fault.Goals as goal

pub returns-in-Refused : goal.returns-in-Refused
returns-in-Refused g c =
    quiet_told _ c.args.fault.now _ _ _ _ _ c.in-Refused.is refl refl refl (search rules)

pub returns-in-Help : goal.returns-in-Help
returns-in-Help g c =
    help_told _ c.args.fault.now c.print_text-printed.result c.none.result c.end_with.result _ _ _ _
    (search rules) (search rules) (search rules)
    c.none.ensures.any_refusal c.none.ensures.file_lacking c.none.ensures.path_unspelled
    c.end_with.ensures.status c.end_with.ensures.log

pub returns-in-BadStep : goal.returns-in-BadStep
returns-in-BadStep g c =
    quiet_told _ c.args.fault.now _ _ _ _ _ c.in-BadStep.is refl refl refl (search rules)

pub returns-in-Memory : goal.returns-in-Memory
returns-in-Memory g c =
    quiet_told _ c.args.fault.now _ _ _ _ _ c.in-Memory.is c.end_in_memory.ensures.status refl refl
    c.end_in_memory.ensures.log
