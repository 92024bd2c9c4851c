use Rattle.std.proofs.Common.{◌≡◌, ◌++◌, drop}
use Rattle.cvr_run.specs.Drill.{events_of}
use Rattle.cvr_run.proofs.drilling.events_of.Given as goal

-- the events so far and those of the steps that are left
abbrev pub invariant-loop-step : goal.invariant-loop-step
invariant-loop-step l =
    l.events.items ++ events_of l.offices (drop l.step-index l.steps) ≡ events_of l.offices l.steps
