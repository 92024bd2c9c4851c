use Rattle.std.proofs.Common.{Some, ap, ◌∙◌, option_map, sym}
use Rattle.cvr_lists.proofs.RunSteps.{snapshot_taken, snapshot_passed, chosen_more}
use Rattle.cvr_lists.proofs.records.greatest_snapshot.Goals as goal
use Rattle.cvr_lists.proofs.records.greatest_snapshot.Goals.{in-Snapshot, in_default}

pub loop-fact-preserved : goal.loop-fact-preserved
loop-fact-preserved c =
    elim c.match-fact.branch [
      | in-Snapshot w ↦
          let was = sym c.fact.ensures ∙ w.in-Snapshot.is in
          let more = snapshot_taken _ _ _ c.loop-fact-test.true c.fact-item.is _ was in
          let is = ap (option_map (λ s. s.now)) w.greatest-is ∙ ap Some w.greater.ensures in
          rw (more, is) (chosen_more _ _ _ c.loop-fact.invariant)
      | in_default w ↦
          let same = snapshot_passed _ _ _ c.loop-fact-test.true c.fact-item.is
          (λ x e. w.in_default.not-Snapshot x (c.fact.ensures ∙ e)) in
          let is = ap (option_map (λ s. s.now)) w.greatest-is in
          rw (same, is) c.loop-fact.invariant
    ]
