use Rattle.std.proofs.Common.{◌++◌, [], ◌∷◌, length, refl, ap, sym, ◌∙◌, append-nil, arith}
use Rattle.cvr_lists.specs.NameRuns.{counted_runs, of_several}
use Rattle.cvr_lists.proofs.ConflictLists.{conflicts-is}
use Rattle.cvr_lists.proofs.NameSteps.{cut, list-more, list-same, runs-end}
use Rattle.cvr_lists.proofs.conflicts.conflicts_in.Goals as goal

pub loop-first-preserved-in_ok-push : goal.loop-first-preserved-in_ok-push
loop-first-preserved-in_ok-push c =
    list-more _ _ _ _
    (cut _ _ _ _ _ c.in-Some.ensures.value c.run_len.ensures.count c.split_at.ensures.front_len
    c.split_at.ensures.back)
    _ _ _ c.loop-first.invariant (omega arith)
    (c.in_ok-push.ensures.ok ∙ ap (λ n. c.loop-first.list
    ++ record { name = n; bodies = length c.split_at.result.0.now } ∷ [])
    c.in_ok-name_of.ensures)

pub loop-first-preserved : goal.loop-first-preserved
loop-first-preserved c =
    list-same _ _ _ _
    (cut _ _ _ _ _ c.in-Some.ensures.value c.run_len.ensures.count c.split_at.ensures.front_len
    c.split_at.ensures.back)
    _ _ _ c.loop-first.invariant (omega arith) refl

pub returns : goal.returns
returns c =
    let done = runs-end c.loop-first.rest.now c.in_default.ensures.value in
    let left = ap (λ xs. c.loop-first.list ++ of_several (counted_runs xs)) done in
    sym (append-nil c.loop-first.list) ∙
    (sym left ∙ (c.loop-first.invariant ∙ sym (conflicts-is c.args.facts.now c.requires)))
