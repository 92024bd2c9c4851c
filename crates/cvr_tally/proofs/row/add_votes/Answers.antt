use Rattle.std.proofs.Common.{◌<◌, ◌≤◌, ◌+◌, get_or, length, arith}
use Rattle.std.proofs.lemmas.List.FromFn.{fill_by_all}
use Rattle.cvr_tally.proofs.row.add_votes.Goals as goal

pub returns : goal.returns
returns c =
    let all : length c.args.votes.now ≤ c.loop-place.place =
    omega (arith, c.requires.long, c.loop-place-test.false) in
    fill_by_all (λ place. get_or c.args.votes.now place 0 + get_or c.args.sums.now place 0) _
    (length c.args.votes.now) 0 c.loop-place.auto.votes
    (λ k lt. let passed : k < c.loop-place.place = omega (arith, all, lt) in
    c.loop-place.invariant.done k passed)
