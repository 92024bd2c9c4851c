use Rattle.std.proofs.Common.{◌<◌, ◌∙◌, ◌∷◌, [], ◌++◌, length, map, ap, arith}
use Rattle.std.proofs.lemmas.List.{map_push}
use Rattle.cvr_tally.proofs.Contests.{one_more}
use Rattle.cvr_tally.proofs.contest_ids.contest_ids.Goals as goal

pub loop-contest-preserved : goal.loop-contest-preserved
loop-contest-preserved c =
    let lt : c.loop-contest.contest < length c.args.definition.now.contests =
    omega (arith, c.loop-contest-test.true, c.contest_count-contest-end.ensures) in
    let new = c.in_ok-ids_of.field-0 in
    ap (map (λ x. (x.id, x.selections))) c.in_ok-push.ensures.items
    ∙ (map_push (λ x. (x.id, x.selections)) c.loop-contest.ids.items new
    ∙ (ap (λ xs. xs ++ (new.id, new.selections) ∷ []) c.loop-contest.invariant
    ∙ one_more _ _ _ _ lt c.in_ok-ids_of.ensures.id c.in_ok-ids_of.ensures.selections))
