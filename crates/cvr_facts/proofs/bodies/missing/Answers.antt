use Rattle.std.proofs.Common.{◌≡◌, ◌++◌, ◌∷◌, [], sym, ap, ◌∙◌}
use Rattle.cvr_fact_types.specs.Facts.{text_cmp}
use Rattle.cvr_facts.specs.Unions.{text_total, text_exact}
use Rattle.cvr_facts.proofs.Sorted.{filter-pushed, filter-passed, is_err-search, is_missing}
use Rattle.cvr_facts.proofs.bodies.missing.Goals as goal
use Rattle.cvr_facts.proofs.bodies.missing.Goals.{then-is_err+in_ok-copy+in_ok-push, else-is_err}

pub loop-body-preserved : goal.loop-body-preserved
loop-body-preserved c =
    let x = c.body-item.result in
    let kept = c.loop-body.more.items in
    let theirs = c.args.theirs.now in
    let lacks = is_missing text_cmp c.args.mine.now in
    let test : lacks x ≡ c.is_err.result =
    sym (is_err-search text_total text_exact c.args.mine.now x c.binary_search.result c.requires
    c.binary_search.ensures.bound c.binary_search.ensures.position) ∙ sym c.is_err.ensures.value
    in
    elim c.if-is_err.branch [
      | then-is_err+in_ok-copy+in_ok-push w ↦
          ap (λ v. v.items) w.more-is ∙
          (w.in_ok-push.ensures.items ∙ (ap (λ b. kept ++ b ∷ []) w.in_ok-copy.ensures
          ∙ filter-pushed lacks theirs kept c.loop-body.body-index x c.loop-body-test.true
          c.body-item.is c.loop-body.invariant (test ∙ w.if-is_err.true)))
      | else-is_err w ↦
          ap (λ v. v.items) w.more-is ∙ filter-passed lacks theirs kept c.loop-body.body-index x
          c.loop-body-test.true c.body-item.is c.loop-body.invariant (test ∙ w.if-is_err.false)
    ]
