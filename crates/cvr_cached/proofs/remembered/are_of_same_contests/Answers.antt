use Rattle.std.proofs.Common.{◌<◌, ◌∙◌, length, sym, ap, arith, map}
use Rattle.std.proofs.lemmas.List.{length-map, get_or-map, take_more_same}
use Rattle.cvr_fact_types.specs.declared.sums.VoteSums.{VoteSums}
use Rattle.cvr_cached.proofs.remembered.are_of_same_contests.Goals as goal

pub loop-place-preserved : goal.loop-place-preserved
loop-place-preserved c =
    let xs = c.args.sums.now in
    let ys = c.args.others.now in
    let i = c.loop-place.place in
    let contest = λ (v : VoteSums). v.contest in
    let here : i < length xs = c.loop-place-test.true in
    let there : i < length ys = omega (arith, here, c.if-sums-others.false) in
    take_more_same (map contest xs) (map contest ys) i 0
    (omega (arith, here, length-map xs contest)) (omega (arith, there, length-map ys contest))
    c.loop-place.invariant
    (get_or-map contest xs i c.index-sums-place.result 0 here
    ∙ (ap contest (sym c.index-sums-place.is) ∙ (c.if-one-others.false
    ∙ sym (get_or-map contest ys i c.index-others-place.result 0 there))))
