-- What is `printed` is what the task makes of the content of all files; with the `refusals` it
-- settles status and log. Where a file was refused since memory ran out, no text is printed.
use Rattle.std.proofs.Common.{length, subst}
use Rattle.std.specs.List.{list_any}
use Rattle.cvr_run.specs.Accepted.{is_refused}
use Rattle.cvr_run.specs.Outcome.{content_of_files, facts_fault, facts_text, task_fault}
use Rattle.cvr_run.specs.Printing.{Prints}
use Rattle.cvr_run.specs.Logged.{import_dues}
use Rattle.cvr_run.proofs.Endings.{ends_in_memory}
use Rattle.cvr_run.proofs.Merging.{no_facts_text}
use Rattle.cvr_run.proofs.Printed.{ends_after, tells_after}
use Rattle.cvr_run.proofs.Logging.{wanted_unprinted, all_due}
use Rattle.cvr_run.proofs.tasks.end_office.Goals as goal

pub returns-in-Ok-clause-ran : goal.returns-in-Ok-clause-ran
returns-in-Ok-clause-ran g c = λ definition files is taken.
    let task = c.args.task.now in
    let held = g.C.Office.held c.args.office.now in
    let before = g.W.Sink.taken c.args.out.now in
    let after = g.W.Sink.taken c.print_office-printed.new.out in
    let printed = c.print_office-printed.result in
    let is_logged = c.in-Ok.ensures in
    let prints =
    subst (λ h. Prints before after printed (facts_fault definition task h)
    (facts_text definition task h)) (taken.made is_logged.working)
    (subst (λ d. Prints before after printed (facts_fault d task held) (facts_text d task held)) is
    c.print_office-printed.ensures) in
    record {
      ends = ends_after before after printed (task_fault definition task files)
          (facts_text definition task (content_of_files definition files)) c.in-Ok.refusals
          (list_any (is_refused definition) files) _ prints
          (no_facts_text definition task (content_of_files definition files)) is_logged.whole
          (is_logged.any_refusal definition files taken.due) c.end_with.ensures.status;
      log = tells_after (import_dues definition c.args.paths.now files) (length files)
          c.in-Ok.refusals _ _ _ (is_logged.log definition files taken.due) (all_due definition files)
          is_logged.whole before after printed (task_fault definition task files)
          (facts_text definition task (content_of_files definition files)) _ prints
          c.end_with.ensures.status c.end_with.ensures.log;
    }

pub returns-in-Err-clause-ran : goal.returns-in-Err-clause-ran
returns-in-Err-clause-ran g c = λ definition files is taken.
    let fault = task_fault definition c.args.task.now files in
    record {
      ends = ends_in_memory _ _ _ _ c.requires.working c.in-Err.ensures.status;
      log = wanted_unprinted (import_dues definition c.args.paths.now files) fault _ _
          (g.W.Sink.taken c.args.out.now) _ _ c.in-Err.ensures.status c.requires.working
          (c.in-Err.ensures.cut_short definition files fault taken.due);
    }

pub returns-in-Ok-clause-lacking : goal.returns-in-Ok-clause-lacking
returns-in-Ok-clause-lacking g c whole = c.in-Ok.ensures.working

pub returns-in-Err-clause-lacking : goal.returns-in-Err-clause-lacking
returns-in-Err-clause-lacking g c whole = absurd (whole c.in-Err.ensures.status)
