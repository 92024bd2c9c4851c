use Rattle.std.proofs.Common.{inl, inr, sym}
use Rattle.cvr_run.proofs.tasks.run_task.Goals as goal

pub returns-in-Currents-clause-happened : goal.returns-in-Currents-clause-happened
returns-in-Currents-clause-happened g c =
    let is_logged = c.run_office.ensures.happened in
    elim c.in-Currents.is [
      | inl currents ↦ rw currents is_logged
      | inr other ↦ elim other [
        | inl conflicts ↦ rw conflicts is_logged
        | inr other ↦ elim other [
          | inl tally ↦ rw tally is_logged
          | inr merge ↦ rw merge.3 is_logged
        ]
      ]
    ]

pub returns-in-Check-clause-happened : goal.returns-in-Check-clause-happened
returns-in-Check-clause-happened g c = rw c.in-Check.is c.run_check.ensures.happened

pub returns-in-Drill-clause-happened : goal.returns-in-Drill-clause-happened
returns-in-Drill-clause-happened g c =
    rw c.in-Drill.is (rw (sym c.as_slice.ensures) c.run_steps.ensures.happened)
