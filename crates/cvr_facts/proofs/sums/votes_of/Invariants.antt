use Rattle.std.proofs.Common.{◌≡◌, take, map}
use Rattle.cvr_facts.specs.Sums.{counts, is_pending, votes_among}
use Rattle.cvr_facts.proofs.sums.votes_of.Given as goal

abbrev pub invariant-loop-position : goal.invariant-loop-position
invariant-loop-position g l =
    let seen = take l.position-index (map g.P.AsPosition.position l.positions) in
    record {
      counted : l.counted ≡ votes_among counts seen;
      pending : l.pending ≡ votes_among is_pending seen;
    }
