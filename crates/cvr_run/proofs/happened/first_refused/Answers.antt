use Rattle.std.proofs.Common.{◌∙◌, sym, ap, arith}
use Rattle.cvr_run.proofs.RefusedPlaces.{place_beyond, place_passed, place_pushed}
use Rattle.cvr_run.proofs.happened.first_refused.Goals as goal
use Rattle.cvr_run.proofs.happened.first_refused.Goals.{then-is_refusal+then-len-lt-NAMED}
use Rattle.cvr_run.proofs.happened.first_refused.Goals.{else-is_refusal}
use Rattle.cvr_run.proofs.happened.first_refused.Goals.{else-is_refusal-via-then-is_refusal+else-len-lt-NAMED}
use Rattle.cvr_run.proofs.happened.first_refused.Goals.{else-is_refusal-via-else-is_refusal}

pub loop-place-preserved : goal.loop-place-preserved
loop-place-preserved c =
    let outcomes = c.args.outcomes.now in
    let k = c.loop-place.place in
    let o = c.index-outcomes-place.result in
    let lt = c.loop-place-test.true in
    let at = c.index-outcomes-place.is in
    let before = c.loop-place.places.items in
    let was = c.loop-place.invariant in
    elim c.if-is_refusal.branch [
      | then-is_refusal+then-len-lt-NAMED w ↦
          ap (λ ps. ps.items) w.places-is
          ∙ (w.push.ensures.items
          ∙ place_pushed outcomes k o lt at before was
          (sym c.is_refusal.ensures ∙ w.if-is_refusal.true)
          (omega (arith, w.if-len-lt-NAMED.true, w.len.ensures)))
      | else-is_refusal w ↦ elim w.else-is_refusal.branch [
        | else-is_refusal-via-then-is_refusal+else-len-lt-NAMED v ↦
            ap (λ ps. ps.items) w.places-is
            ∙ place_beyond outcomes k o lt at before was
            (sym c.is_refusal.ensures ∙ v.if-is_refusal.true)
            (omega (arith, v.if-len-lt-NAMED.false, v.len.ensures))
        | else-is_refusal-via-else-is_refusal v ↦
            ap (λ ps. ps.items) w.places-is
            ∙ place_passed outcomes k o lt at before was
            (sym c.is_refusal.ensures ∙ v.if-is_refusal.false)
      ]
    ]
