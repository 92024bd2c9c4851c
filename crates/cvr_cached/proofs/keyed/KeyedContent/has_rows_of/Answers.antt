use Rattle.std.proofs.Common.{◌∙◌, sym, ap, subst}
use Rattle.std.proofs.lemmas.Bool.{false≢true, OnTrue_at, OnTrue_from}
use Rattle.cvr_cached.specs.Contents.{current_sums, IsKeyOf}
use Rattle.cvr_cached.proofs.SameRows.{same_rows, same_part}
use Rattle.cvr_cached.proofs.keyed.KeyedContent.has_rows_of.Goals as goal
use Rattle.cvr_cached.proofs.keyed.KeyedContent.has_rows_of.Goals.{then-eq, else-eq}

pub returns-then-eq-2 : goal.returns-then-eq-2
returns-then-eq-2 c = OnTrue_from c.are_of_same_contests.result _ (λ same.
    elim c.if-eq.branch [
      | then-eq w ↦ same_rows c.args.self.now c.args.other.now c.self.inside.key c.other.inside.key
          (subst (λ fs. IsKeyOf fs c.self.inside.key) c.self.view_is c.self.invariant)
          (subst (λ fs. IsKeyOf fs c.other.inside.key) c.other.view_is c.other.invariant)
          (same_part _ _ (sym c.eq.ensures ∙ w.if-eq.true))
          (same_part _ _ (sym w.eq-then-eq.ensures ∙ (sym w.value-is ∙ c.if-eq-2.true)))
          (c.votes-sums.ensures ∙ ap current_sums c.self.view_is)
          (c.votes-others.ensures ∙ ap current_sums c.other.view_is)
          (OnTrue_at same c.are_of_same_contests.ensures)
      | else-eq w ↦ absurd (false≢true (sym w.if-eq.false ∙ (sym w.value-is ∙ c.if-eq-2.true)))
    ])
