use Rattle.std.proofs.Common.{None, sym, ap, ◌∙◌}
use Rattle.std.specs.List.{last_or}
use Rattle.cvr_lists.proofs.Lemmas.{last_taken, header_passed}
use Rattle.cvr_cached.specs.Contents.{header_at}
use Rattle.cvr_cached.proofs.Places.{header_here}
use Rattle.cvr_cached.proofs.remembered.header_place.Goals as goal
use Rattle.cvr_cached.proofs.remembered.header_place.Goals.{in-Header, in_default}

pub loop-place-preserved : goal.loop-place-preserved
loop-place-preserved c =
    elim c.match-fact.branch [
      | in-Header w ↦
          let was = sym c.fact.ensures ∙ w.in-Header.is in
          ap (header_at c.args.facts.now) w.last-is
          ∙ (header_here _ _ _ c.loop-place-test.true c.index-facts-place.is _ was
          ∙ sym (last_taken _ _ _ c.loop-place-test.true c.index-facts-place.is _ was))
      | in_default w ↦
          ap (header_at c.args.facts.now) w.last-is
          ∙ (c.loop-place.invariant ∙ sym
          (ap (last_or None) (header_passed _ _ _ c.loop-place-test.true c.index-facts-place.is
          (λ x e. w.in_default.not-Header x (c.fact.ensures ∙ e)))))
    ]
