-- With `refusals` in the log, the lines printed are those of the files not refused, and status and
-- log end as both require; where a file was refused since memory ran out, no line is printed.
use Rattle.std.proofs.Common.{length, None, subst}
use Rattle.std.specs.List.{list_any}
use Rattle.cvr_run.specs.Accepted.{is_refused}
use Rattle.cvr_run.specs.Outcome.{check_lines}
use Rattle.cvr_run.specs.Printing.{Prints}
use Rattle.cvr_run.specs.Logged.{import_dues}
use Rattle.cvr_run.proofs.Endings.{ends_in_memory}
use Rattle.cvr_run.proofs.Printed.{ends_after, tells_after}
use Rattle.cvr_run.proofs.Logging.{wanted_unprinted, all_due}
use Rattle.cvr_run.proofs.tasks.end_check.Goals as goal

pub returns-in-Ok-clause-ran : goal.returns-in-Ok-clause-ran
returns-in-Ok-clause-ran g c = λ definition files taken.
    let paths = c.args.paths.now in
    let lines = check_lines definition paths files in
    let before = g.W.Sink.taken c.args.out.now in
    let after = g.W.Sink.taken c.print_text.new.out in
    let printed = c.print_text.result in
    let is_logged = c.in-Ok.ensures in
    let prints = subst (Prints before after printed None) (taken.made is_logged.working)
    c.print_text.ensures.printed in
    record {
      ends = ends_after before after printed None lines c.in-Ok.refusals
          (list_any (is_refused definition) files) _ prints (λ m is. absurd (cc)) is_logged.whole
          (is_logged.any_refusal definition files taken.due) c.end_with.ensures.status;
      log = tells_after (import_dues definition paths files) (length files) c.in-Ok.refusals _ _ _
          (is_logged.log definition files taken.due) (all_due definition files) is_logged.whole before after
          printed None lines _ prints c.end_with.ensures.status c.end_with.ensures.log;
    }

pub returns-in-Err-clause-ran : goal.returns-in-Err-clause-ran
returns-in-Err-clause-ran g c = λ definition files taken. record {
  ends = ends_in_memory _ _ _ _ c.requires.working c.in-Err.ensures.status;
  log = wanted_unprinted (import_dues definition c.args.paths.now files) None _ _
      (g.W.Sink.taken c.args.out.now) _ _ c.in-Err.ensures.status c.requires.working
      (c.in-Err.ensures.cut_short definition files None taken.due);
}

pub returns-in-Ok-clause-lacking : goal.returns-in-Ok-clause-lacking
returns-in-Ok-clause-lacking g c whole = c.in-Ok.ensures.working

pub returns-in-Err-clause-lacking : goal.returns-in-Err-clause-lacking
returns-in-Err-clause-lacking g c whole = absurd (whole c.in-Err.ensures.status)
