use Rattle.std.proofs.Common.{ℕ, List, Bor, map, inl, inr, refl, ap, ◌∙◌, subst}
use Rattle.std.proofs.lemmas.List.{map-append, take_more}
use Rattle.cvr_office.specs.declared.record_facts.IdFacts.{IdFacts}
use Rattle.cvr_office.specs.Runs.{snapshots}
use Rattle.cvr_lists.specs.Groups.{with_id, IsFalling}
use Rattle.cvr_office.proofs.Lemmas.{pushed, pushed_cases}
use Rattle.cvr_lists.proofs.record_lists.grouped.Goals as goal

pub loop-id-preserved : goal.loop-id-preserved
loop-id-preserved c =
    let found = c.in_ok-falling.field-0.items in
    let here = subst (λ facts. IsFalling (snapshots facts) (map (λ s. s.now) found))
    c.with_id.ensures c.in_ok-falling.ensures in
    record {
      ids_are =
          pushed (λ (i : IdFacts). i.id.now) _ _ _ _ _ _ c.in_ok-push.ensures.items refl
          c.loop-id.invariant.ids_are
          (ap (map (λ (i : Bor (List ℕ)). i.now)) (take_more _ _ _ c.loop-id-test.true)
          ∙ map-append (λ (i : Bor (List ℕ)). i.now) _ _);
      each = λ i at.
          elim (pushed_cases _ _ _ i c.in_ok-push.ensures.items at) [
            | inl before ↦ c.loop-id.invariant.each i before
            | inr is ↦ subst (λ (j : IdFacts).
                IsFalling (snapshots (with_id j.id.now c.args.run.now))
                (map (λ s. s.now) j.snapshots.items)) is here
          ];
    }
