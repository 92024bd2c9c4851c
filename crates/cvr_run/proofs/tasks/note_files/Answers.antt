-- Unless a file was refused since memory ran out, `refusals` and log are those that the definition
-- gives these files, but for paths that can't be spelled; if one was, the log is one cut short.
use Rattle.std.proofs.Common.{◌∙◌, ℕ, List, false, length, map, sym, subst}
use Rattle.std.proofs.lemmas.List.{map-id}
use Rattle.cdf_definition.specs.Frame.{Frame}
use Rattle.cdf_types.specs.Device.{Taken}
use Rattle.cvr_office.specs.declared.event.Outcome.{Outcome}
use Rattle.cvr_run.specs.declared.refusals.Refusals.{Refusals}
use Rattle.cvr_run.specs.Refusals.{AreDue}
use Rattle.cvr_run.specs.Logged.{file_dues, import_dues, LogsFirst}
use Rattle.cvr_run.proofs.Collected.{refused_files}
use Rattle.cvr_run.proofs.Steps.{refused_as_due}
use Rattle.cvr_run.proofs.Logging.{all_due, lacks}
use Rattle.cvr_run.proofs.tasks.note_files.Goals as goal

logged : (definition : Frame) (paths files : List (List ℕ)) (r : Refusals) (b a : Taken)
    (rs : List Outcome) → AreDue (file_dues definition files) rs
    → LogsFirst (record { texts = map (λ path. path) paths; dues = file_dues definition files })
    (length rs) r b a → LogsFirst (import_dues definition paths files) (length files) r b a
logged definition paths files r b a rs due logs =
    subst (λ texts. LogsFirst (record { texts = texts; dues = file_dues definition files })
    (length files) r b a) (map-id paths)
    (subst (λ k. LogsFirst
    (record { texts = map (λ path. path) paths; dues = file_dues definition files }) k r b a)
    (sym due.count ∙ sym (all_due definition files)) logs)

pub returns : goal.returns
returns g c =
    let rs = c.args.outcomes.now in
    let paths = c.args.paths.now in
    let refusals = c.note_refused-refusals.result in
    let is_logged = c.note_refused-refusals.ensures in
    let before = g.L.Sink.taken c.args.log.now in
    let after = g.L.Sink.taken c.note_refused-refusals.new.log in
    let working = sym is_logged.file_lacking ∙ c.if-refusals.false in
    record {
      any_refusal = λ definition files due.
          is_logged.any_refusal
          ∙ (refused_as_due (file_dues definition files) rs due.count due.each working
          ∙ refused_files definition files);
      whole = c.if-refusals.false;
      working = working;
      log = λ definition files due.
          logged definition paths files refusals before after rs due
          (is_logged.log (file_dues definition files) due);
      status = tt;
      cut_short = tt;
    }

pub returns-then-refusals-clause-cut_short : goal.returns-then-refusals-clause-cut_short
returns-then-refusals-clause-cut_short g c = λ definition files fault due.
    let paths = c.args.paths.now in
    let refusals = c.note_refused-refusals.result in
    let before = g.L.Sink.taken c.args.log.now in
    let after = g.L.Sink.taken c.note_refused-refusals.new.log in
    lacks (import_dues definition paths files) (length files) refusals before after
    (logged definition paths files refusals before after c.args.outcomes.now due
    (c.note_refused-refusals.ensures.log (file_dues definition files) due))
    (all_due definition files) c.if-refusals.true fault false
