use Rattle.std.proofs.Common.{◌≡◌, List, map, take}
use Rattle.std.specs.List.{list_any}
use Rattle.cvr_run.specs.Refusals.{Due, is_refusal, is_want, AreDue}
use Rattle.cvr_run.specs.Logged.{LogsFirst}
use Rattle.cvr_run.proofs.noting.note_refused.Given as goal

-- what the outcomes so far say, and what was logged of them
abbrev pub invariant-loop-place : goal.invariant-loop-place
invariant-loop-place g l = record {
  any_refusal : l.refusals.any_refusal ≡ list_any is_refusal (take l.place l.outcomes);
  file_lacking : l.refusals.file_lacking ≡ list_any is_want (take l.place l.outcomes);
  log : (dues : List Due) → AreDue dues l.outcomes
      → let texts = map g.A.Argument.spelled l.arguments in
      LogsFirst (record { texts = texts; dues = dues }) l.place
      l.refusals (g.L.Sink.taken l.initial.log) (g.L.Sink.taken l.log);
}
