use Rattle.std.proofs.Common.{false, length, sym}
use Rattle.std.proofs.lemmas.List.{length-map}
use Rattle.cvr_run.specs.Drill.{step_due}
use Rattle.cvr_run.specs.Outcome.{files_of}
use Rattle.cvr_run.specs.Logged.{drill_dues}
use Rattle.cvr_run.proofs.Logging.{lacks}
use Rattle.cvr_run.proofs.drilling.drill_all.Goals as goal

pub returns-then-refusals-clause-cut_short : goal.returns-then-refusals-clause-cut_short
returns-then-refusals-clause-cut_short g c = λ fault.
    let definition = c.args.definition.now in
    let steps = c.args.steps.now in
    let files = files_of c.args.files.now in
    lacks (drill_dues definition c.args.count files steps) (length steps) c.in-Ok.refusals _ _
    c.in-Ok.ensures.log
    (sym (length-map steps (step_due definition c.args.count files))) c.if-refusals.true fault false

pub returns-clause-happened : goal.returns-clause-happened
returns-clause-happened g c facts = c.in-Ok.ensures.happened c.if-refusals.false facts
