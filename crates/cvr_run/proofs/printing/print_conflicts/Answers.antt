use Rattle.cvr_run.proofs.Printed.{not_printed}
use Rattle.cvr_run.proofs.printing.print_conflicts.Goals as goal

pub returns-in_err-text : goal.returns-in_err-text
returns-in_err-text g c = not_printed _ c.from_residual-in_err-text.result _ _
    c.from_residual-in_err-text.ensures.1 c.requires
