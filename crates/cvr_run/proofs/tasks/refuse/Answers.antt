-- Nothing is in `refusals` before the definition, and nothing after it: status, log and what is
-- noted of the run follow from that one refusal, whatever files the request has.
use Rattle.std.proofs.Common.{◌∙◌, [], sym}
use Rattle.cvr_run.specs.Outcome.{run_fault}
use Rattle.cvr_run.specs.Logged.{last_lines}
use Rattle.cvr_run.proofs.Accepted.{none_last}
use Rattle.cvr_run.proofs.Happenings.{happens_refused}
use Rattle.cvr_run.proofs.Printed.{ends_unsound}
use Rattle.cvr_run.proofs.Logging.{definition_log, definition_cut_short}
use Rattle.cvr_run.proofs.tasks.refuse.Goals as goal

pub returns-clause-ran : goal.returns-clause-ran
returns-clause-ran g c = λ def files out working first.
    let task = c.args.request.now.task in
    let what = c.args.request.now.def in
    let paths = c.args.request.now.paths in
    let fault = c.args.fault in
    let none = c.none-refusals in
    let noted = c.note in
    record {
      ends = ends_unsound task def paths files out fault none.result.file_lacking
          noted.new.self.file_lacking noted.new.self.path_unspelled noted.new.self.any_refusal _
          working first none.ensures.file_lacking noted.ensures.file_lacking
          noted.ensures.any_refusal c.status.ensures;
      log = λ whole.
          definition_log task what def paths files fault none.result noted.new.self _ _
          c.as_str.result.now (last_lines (run_fault task def files) out.failed) c.as_str.ensures
          first none.ensures.file_lacking none.ensures.path_unspelled noted.ensures.file_lacking
          (none_last task def files _ fault working) noted.ensures.is_logged
          (λ e. whole (c.status.ensures ∙ e));
      cut_short = λ want.
          definition_cut_short task what def paths files fault none.result noted.new.self _ _
          c.as_str.result.now [] c.as_str.ensures first none.ensures.file_lacking
          none.ensures.path_unspelled noted.ensures.file_lacking out.failed noted.ensures.is_logged
          (sym c.status.ensures ∙ want);
    }

pub returns-clause-happened : goal.returns-clause-happened
returns-clause-happened g c def files whole first =
    happens_refused c.args.request.now def files c.args.fault c.none-refusals.result c.note.new.self
    c.status.result c.refuse.new.self whole first c.none-refusals.ensures.file_lacking
    c.note.ensures.file_lacking c.status.ensures c.refuse.ensures.definition
    c.refuse.ensures.outcomes c.refuse.ensures.several
