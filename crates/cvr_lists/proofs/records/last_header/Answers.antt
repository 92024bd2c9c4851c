use Rattle.std.proofs.Common.{None, sym, ap, ◌∙◌, option_map}
use Rattle.std.specs.List.{last_or}
use Rattle.cvr_lists.proofs.RunSteps.{last_taken, header_passed}
use Rattle.cvr_lists.proofs.records.last_header.Goals as goal
use Rattle.cvr_lists.proofs.records.last_header.Goals.{in-Header, in_default}

pub loop-fact-preserved : goal.loop-fact-preserved
loop-fact-preserved c =
    elim c.match-fact.branch [
      | in-Header w ↦
          ap (option_map (λ h. h.now)) w.last-is
          ∙ sym (last_taken _ _ _ c.loop-fact-test.true c.fact-item.is _
          (sym c.fact.ensures ∙ w.in-Header.is))
      | in_default w ↦
          ap (option_map (λ h. h.now)) w.last-is
          ∙ (c.loop-fact.invariant ∙ sym
          (ap (last_or None) (header_passed _ _ _ c.loop-fact-test.true c.fact-item.is
          (λ x e. w.in_default.not-Header x (c.fact.ensures ∙ e)))))
    ]
