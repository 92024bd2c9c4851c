use Rattle.std.proofs.Common.{ℕ, List, Bor, map, refl, sym, ap, ◌∙◌}
use Rattle.std.specs.Prelude.{bytes_eq}
use Rattle.std.specs.List.{dedup}
use Rattle.std.proofs.lemmas.List.{map-append, take_all}
use Rattle.std.proofs.lemmas.List.Filters.{dedup_is}
use Rattle.cvr_lists.specs.Groups.{ids}
use Rattle.cvr_lists.proofs.RunSteps.{snapshot_taken, snapshot_passed}
use Rattle.cvr_office.proofs.Lemmas.{pushed, map-dedup}
use Rattle.cvr_lists.proofs.record_lists.ids_in.Goals as goal
use Rattle.cvr_lists.proofs.record_lists.ids_in.Goals.{in-Snapshot+in_ok-push, in_default}

pub loop-fact-preserved : goal.loop-fact-preserved
loop-fact-preserved c =
    elim c.match-fact.branch [
      | in-Snapshot+in_ok-push w ↦
          let was = sym c.fact.ensures ∙ w.in-Snapshot.is in
          let more = snapshot_taken _ _ _ c.loop-fact-test.true c.fact-item.is _ was in
          ap (λ v. map (λ i. i.now) v.items) w.ids-is
          ∙ pushed (λ i. i.now) _ _ _ _ _ _ w.in_ok-push.ensures.items w.as_str.ensures
          c.loop-fact.invariant (ap (map (λ s. s.id)) more ∙ map-append (λ s. s.id) _ _)
      | in_default w ↦
          ap (λ v. map (λ i. i.now) v.items) w.ids-is
          ∙ (c.loop-fact.invariant ∙ ap (map (λ s. s.id))
          (sym (snapshot_passed _ _ _ c.loop-fact-test.true c.fact-item.is
          (λ x e. w.in_default.not-Snapshot x (c.fact.ensures ∙ e)))))
    ]

pub returns : goal.returns
returns c =
    let whole = take_all _ _ c.loop-fact-test.false in
    ap (map (λ i. i.now)) (dedup_is _ _ _ c.dedup.ensures.filtered)
    ∙ (map-dedup (λ (i : Bor (List ℕ)). i.now) _ bytes_eq (λ x y. refl) c.loop-fact.ids.items
    ∙ ap (dedup bytes_eq) (c.loop-fact.invariant ∙ ap ids whole))
