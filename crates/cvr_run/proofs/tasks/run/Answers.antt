-- With a `definition` that is accepted, the task had all files as they were lent, or memory ran out
-- before it printed; with one that isn't, refusing it is the whole run over these files.
use Rattle.std.proofs.Common.{◌∙◌, inl, inr, length, ap, subst}
use Rattle.cvr_run.specs.Devices.{Outputs}
use Rattle.cvr_run.specs.Ends.{Ran, RanBeside}
use Rattle.cvr_run.specs.Log.{Logs}
use Rattle.cvr_run.specs.Outcome.{files_of}
use Rattle.cvr_run.proofs.Beside.{ran_at_once, ran_beside}
use Rattle.cvr_run.proofs.Had.{had_all}
use Rattle.cvr_run.proofs.tasks.run.Goals as goal

pub returns : goal.returns
returns g c =
    let request = c.args.request.now in
    let def = c.args.def.now in
    let answer = c.run_task.result in
    let old : Outputs =
    record { out = g.W.Sink.taken c.args.out.now; log = g.L.Sink.taken c.args.log.now } in
    let new : Outputs = record {
      out = g.W.Sink.taken c.run_task.new.out;
      log = g.L.Sink.taken c.run_task.new.log;
    } in
    let sound = c.in-Ok.ensures.sound in
    record {
      ran = elim c.run_task.ensures.ran [
        | inl stops ↦ ran_at_once request def (files_of c.args.files.now) answer old new sound
            c.requires.working (ap g.W.Sink.taken stops.0) stops.1.1.0
            (subst (Logs old.log new.log) stops.1.1.1 stops.1.2)
        | inr had ↦ subst (λ fs. Ran (record { request = request; def = def; files = fs }) answer
            old new)
            (had_all c.args.files.now c.as_slice.result.now had.0
            (ap length c.as_slice.ensures ∙ c.requires.named) had.1)
            (ran_beside request def c.in-Ok.definition had.0 answer old new sound
            c.in-Ok.ensures.frame
            (subst (λ ps. RanBeside c.in-Ok.definition request.task ps had.0 answer old new)
            c.as_slice.ensures had.2))
      ];
    }

pub returns-in-Err : goal.returns-in-Err
returns-in-Err g c = record {
  ran = c.refuse.ensures.ran c.args.def.now (files_of c.args.files.now) (g.W.Sink.taken c.args.out.now)
      c.requires.working c.in-Err.ensures.first;
}
