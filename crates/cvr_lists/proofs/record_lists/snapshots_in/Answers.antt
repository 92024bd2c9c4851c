use Rattle.std.proofs.Common.{map, refl, sym, ap, ◌∙◌}
use Rattle.cvr_lists.proofs.RunSteps.{snapshot_taken, snapshot_passed}
use Rattle.cvr_office.proofs.Lemmas.{pushed}
use Rattle.cvr_lists.proofs.record_lists.snapshots_in.Goals as goal
use Rattle.cvr_lists.proofs.record_lists.snapshots_in.Goals.{in-Snapshot+in_ok-push, in_default}

pub loop-fact-preserved : goal.loop-fact-preserved
loop-fact-preserved c =
    elim c.match-fact.branch [
      | in-Snapshot+in_ok-push w ↦
          let was = sym c.fact.ensures ∙ w.in-Snapshot.is in
          let more = snapshot_taken _ _ _ c.loop-fact-test.true c.fact-item.is _ was in
          ap (λ v. map (λ s. s.now) v.items) w.snapshots-is
          ∙ pushed (λ s. s.now) _ _ _ _ _ _ w.in_ok-push.ensures.items refl
          c.loop-fact.invariant more
      | in_default w ↦
          ap (λ v. map (λ s. s.now) v.items) w.snapshots-is
          ∙ (c.loop-fact.invariant ∙ sym
          (snapshot_passed _ _ _ c.loop-fact-test.true c.fact-item.is
          (λ x e. w.in_default.not-Snapshot x (c.fact.ensures ∙ e))))
    ]
