-- The task over an accepted `definition` and the refusal of another are both the run of the request
-- over the files read; where either stops at a file, the request stops there.
use Rattle.std.proofs.Common.{◌≡◌, inl, inr, refl, subst}
use Rattle.cvr_run.specs.Devices.{Devices, outputs}
use Rattle.cvr_run.specs.Ends.{RanBeside}
use Rattle.cvr_run.specs.Given.{HadWhole, StopsOr}
use Rattle.cvr_run.specs.Happened.{AreNoted}
use Rattle.cvr_run.specs.Outcome.{content_of_files}
use Rattle.cvr_run.specs.Logged.{task_dues}
use Rattle.cvr_run.specs.declared.given.Files.TheVariants.{Opened}
use Rattle.cvr_run.proofs.Beside.{ran_beside}
use Rattle.cvr_run.proofs.Happenings.{happens_beside}
use Rattle.cvr_run.proofs.working.run_behind.Goals as goal

pub returns-in-Ok-clause-ran : goal.returns-in-Ok-clause-ran
returns-in-Ok-clause-ran g c =
    let request = c.args.request.now in
    let answer = c.run_task.result in
    let definition = c.in-Ok.definition in
    let old : Devices = record {
      opener = g.O.Open.state c.args.opener.now;
      out = g.W.Sink.taken c.args.out.now;
      log = g.L.Sink.taken c.args.log.now;
    } in
    let new : Devices = record {
      opener = g.O.Open.state c.run_task.new.opener;
      out = g.W.Sink.taken c.run_task.new.out;
      log = g.L.Sink.taken c.run_task.new.log;
    } in
    elim (subst (λ ps. StopsOr Opened ps answer old new (c.run_task.new.out ≡ c.args.out.now)
    (λ files. RanBeside definition request.task ps files answer (outputs old) (outputs new)))
    c.as_slice.ensures c.run_task.ensures.ran) [
      | inl stops ↦ inl stops
      | inr had ↦ inr (
        had.0,
        had.1,
        ran_beside request c.args.def.now definition had.0 answer (outputs old) (outputs new)
            c.in-Ok.ensures.sound c.in-Ok.ensures.frame had.2,
      )
    ]

pub returns-in-Err-clause-ran : goal.returns-in-Err-clause-ran
returns-in-Err-clause-ran g c =
    elim (c.refuse_last.ensures.ran c.args.def.now (g.W.Sink.taken c.args.out.now) c.requires.working
    c.in-Err.ensures.first) [
      | inl stops ↦ inl (refl, stops.1)
      | inr had ↦ inr had
    ]

pub returns-in-Ok-clause-happened : goal.returns-in-Ok-clause-happened
returns-in-Ok-clause-happened g c whole =
    let request = c.args.request.now in
    let definition = c.in-Ok.definition in
    let happened = c.run_task.new.happened in
    let had = subst (λ ps. HadWhole Opened ps c.run_task.result (g.O.Open.state c.args.opener.now)
    (g.O.Open.state c.run_task.new.opener) (λ files. AreNoted happened
    (task_dues definition request.task ps files).dues (content_of_files definition files)))
    c.as_slice.ensures c.run_task.ensures.happened whole in (
      had.0,
      had.1,
      happens_beside request c.args.def.now definition had.0 happened c.in-Ok.ensures.sound
          c.in-Ok.ensures.frame had.2,
    )

pub returns-in-Err-clause-happened : goal.returns-in-Err-clause-happened
returns-in-Err-clause-happened g c whole =
    c.refuse_last.ensures.happened c.args.def.now c.in-Err.ensures.first whole
