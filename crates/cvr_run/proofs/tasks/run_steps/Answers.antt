-- All files are read and kept before the first step, so the drill is one over exactly these; a file
-- that isn't read stops the run (`status`) before any step, and such a run isn't whole.
use Rattle.std.proofs.Common.{◌∙◌, ◌≡◌, None, inl, inr, refl, ap, subst}
use Rattle.cvr_office.specs.Outcomes.{no_frame}
use Rattle.cvr_run.specs.Devices.{Outputs}
use Rattle.cvr_run.specs.Drill.{drill_refused, drill_text}
use Rattle.cvr_run.specs.Ends.{Ends}
use Rattle.cvr_run.specs.Happened.{AreNoted}
use Rattle.cvr_run.specs.Outcome.{content_of_files, files_of}
use Rattle.cvr_run.specs.Logged.{drill_dues, LogsRun}
use Rattle.cvr_run.proofs.Had.{stops_behind}
use Rattle.cvr_run.proofs.Happenings.{stops_not_whole}
use Rattle.cvr_run.proofs.tasks.run_steps.Goals as goal

pub returns-in-Ok-clause-ran : goal.returns-in-Ok-clause-ran
returns-in-Ok-clause-ran g c =
    let definition = c.args.definition.now in
    let n = c.args.count in
    let steps = c.args.steps.now in
    let answer = c.run_drill.result in
    let quiet = c.in-Ok.ensures.quiet in
    let old : Outputs =
    record { out = g.W.Sink.taken c.args.out.now; log = g.L.Sink.taken c.args.log.now } in
    let new : Outputs = record {
      out = g.W.Sink.taken c.run_drill.new.out;
      log = g.L.Sink.taken c.run_drill.new.log;
    } in
    let had = c.in-Ok.ensures.taken no_frame (ap files_of c.new.ensures.items) in
    let files : files_of c.as_slice.result.now ≡ had.0 =
    ap files_of c.as_slice.ensures.value ∙ had.2 in
    inr (
      had.0,
      had.1,
      record {
        ends = subst (λ fs. Ends old.out new.out (drill_text definition n fs steps)
            (drill_refused definition n fs steps) answer) files c.run_drill.ensures.ends;
        log = subst (λ l. LogsRun (drill_dues definition n had.0 steps) None answer
            (record { out = old.out; log = g.L.Sink.taken l }) new) quiet
            (subst (λ fs. LogsRun (drill_dues definition n fs steps) None answer
            (record { out = old.out; log = g.L.Sink.taken c.take_all.new.log }) new) files
            c.run_drill.ensures.log);
      },
    )

pub returns-clause-ran : goal.returns-clause-ran
returns-clause-ran g c =
    let some = c.in-Err.ensures.stops in
    inl (refl, (some.0, stops_behind _ _ _ _ _ _ some.1, some.2))

pub returns-in-Ok-clause-happened : goal.returns-in-Ok-clause-happened
returns-in-Ok-clause-happened g c whole =
    let definition = c.args.definition.now in
    let had = c.in-Ok.ensures.taken no_frame (ap files_of c.new.ensures.items) in
    let files : files_of c.as_slice.result.now ≡ had.0 =
    ap files_of c.as_slice.ensures.value ∙ had.2 in
    let facts = content_of_files definition had.0 in (
      had.0,
      had.1,
      subst (λ fs. AreNoted c.run_drill.new.happened
          (drill_dues definition c.args.count fs c.args.steps.now).dues facts) files
          (c.run_drill.ensures.happened whole facts),
    )

pub returns-clause-happened : goal.returns-clause-happened
returns-clause-happened g c whole =
    let some = c.in-Err.ensures.stops in
    let old = g.O.Open.state c.args.opener.now in
    let new = g.O.Open.state c.take_all.new.opener in
    absurd (stops_not_whole c.args.from old new c.args.paths.now c.in-Err.status some.0 some.1 whole)
