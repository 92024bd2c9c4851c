use Rattle.std.proofs.Common.{Bor, map, refl, sym, ap, ◌∙◌}
use Rattle.std.specs.Prelude.{reverse}
use Rattle.std.proofs.lemmas.List.{take_all}
use Rattle.cvr_fact_types.specs.declared.header.HeaderFact.{HeaderFact}
use Rattle.cvr_office.specs.Runs.{headers}
use Rattle.cvr_lists.proofs.RunSteps.{header_taken, header_passed}
use Rattle.cvr_office.proofs.Lemmas.{pushed, map-reverse}
use Rattle.cvr_lists.proofs.record_lists.headers_down.Goals as goal
use Rattle.cvr_lists.proofs.record_lists.headers_down.Goals.{in-Header+in_ok-push, in_default}

pub loop-fact-preserved : goal.loop-fact-preserved
loop-fact-preserved c =
    elim c.match-fact.branch [
      | in-Header+in_ok-push w ↦
          let was = sym c.fact.ensures ∙ w.in-Header.is in
          let more = header_taken _ _ _ c.loop-fact-test.true c.fact-item.is _ was in
          ap (λ v. map (λ h. h.now) v.items) w.headers-is
          ∙ pushed (λ h. h.now) _ _ _ _ _ _ w.in_ok-push.ensures.items refl
          c.loop-fact.invariant more
      | in_default w ↦
          ap (λ v. map (λ h. h.now) v.items) w.headers-is
          ∙ (c.loop-fact.invariant ∙ sym
          (header_passed _ _ _ c.loop-fact-test.true c.fact-item.is
          (λ x e. w.in_default.not-Header x (c.fact.ensures ∙ e))))
    ]

pub returns : goal.returns
returns c =
    let whole = take_all _ _ c.loop-fact-test.false in
    ap (map (λ h. h.now)) c.reverse.ensures.items
    ∙ (map-reverse (λ (h : Bor HeaderFact). h.now) c.loop-fact.headers.items
    ∙ ap reverse (c.loop-fact.invariant ∙ ap headers whole))
