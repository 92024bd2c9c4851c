-- What was `printed` of the offices and the `refusals` of their steps settle status and log; where
-- memory ran out before printing (`status`), no text is printed, and the run isn't whole.
use Rattle.std.proofs.Common.{inr, None, length, sym, rules}
use Rattle.std.proofs.lemmas.List.{length-map}
use Rattle.cvr_run.specs.Drill.{step_due, drill_text, drill_refused}
use Rattle.cvr_run.specs.Outcome.{files_of}
use Rattle.cvr_run.specs.Printing.{Prints}
use Rattle.cvr_run.specs.Logged.{drill_dues}
use Rattle.cvr_run.proofs.Endings.{ends_in_memory}
use Rattle.cvr_run.proofs.Known.{not_whole}
use Rattle.cvr_run.proofs.Printed.{ends_after, tells_after}
use Rattle.cvr_run.proofs.Logging.{wanted_unprinted}
use Rattle.cvr_run.proofs.drilling.run_drill.Goals as goal

pub returns-in-Ok-clause-ends : goal.returns-in-Ok-clause-ends
returns-in-Ok-clause-ends g c =
    let definition = c.args.definition.now in
    let steps = c.args.steps.now in
    let files = files_of c.args.files.now in
    let before = g.W.Sink.taken c.args.out.now in
    let after = g.W.Sink.taken c.print_offices-printed.new.out in
    let printed = c.print_offices-printed.result in
    let prints : Prints before after printed None (drill_text definition c.args.count files steps) =
    search rules in
    ends_after before after printed None (drill_text definition c.args.count files steps)
    c.in-Ok.refusals (drill_refused definition c.args.count files steps) _ prints
    (λ m is. absurd (cc)) c.in-Ok.ensures.whole c.in-Ok.ensures.any_refusal
    c.end_with.ensures.status

pub returns-in-Ok-clause-log : goal.returns-in-Ok-clause-log
returns-in-Ok-clause-log g c =
    let definition = c.args.definition.now in
    let steps = c.args.steps.now in
    let files = files_of c.args.files.now in
    tells_after (drill_dues definition c.args.count files steps) (length steps) c.in-Ok.refusals _ _
    _ c.in-Ok.ensures.log (sym (length-map steps (step_due definition c.args.count files)))
    c.in-Ok.ensures.whole
    (g.W.Sink.taken c.args.out.now) (g.W.Sink.taken c.print_offices-printed.new.out)
    c.print_offices-printed.result None _ _ c.print_offices-printed.ensures
    c.end_with.ensures.status c.end_with.ensures.log

pub returns-in-Err-clause-ends : goal.returns-in-Err-clause-ends
returns-in-Err-clause-ends g c = ends_in_memory _ _ _ _ c.requires c.in-Err.ensures.status

pub returns-in-Err-clause-log : goal.returns-in-Err-clause-log
returns-in-Err-clause-log g c =
    let definition = c.args.definition.now in
    let steps = c.args.steps.now in
    wanted_unprinted (drill_dues definition c.args.count (files_of c.args.files.now) steps) None _ _
    (g.W.Sink.taken c.args.out.now) _ _ c.in-Err.ensures.status c.requires
    (c.in-Err.ensures.cut_short None)

pub returns-in-Err-clause-happened : goal.returns-in-Err-clause-happened
returns-in-Err-clause-happened g c whole =
    absurd (not_whole c.in-Err.status (inr c.in-Err.ensures.status) whole)
