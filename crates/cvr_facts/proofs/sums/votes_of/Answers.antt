-- Up to each `position`, `counted` and `pending` have the votes of those positions that count, or
-- that are pending; neither passes the votes of all positions, which are below the limit.
use Rattle.std.proofs.Common.{◌≡◌, map, cond, ap, ◌∙◌, arith}
use Rattle.cvr_facts.specs.Sums.{counts, is_pending}
use Rattle.cvr_facts.proofs.Counting.{told_less, told_is, among_next-lt, among_more}
use Rattle.cvr_facts.proofs.sums.votes_of.Goals as goal

pub overflow_add-counted : goal.overflow_add-counted
overflow_add-counted g c =
    let stated = g.P.AsPosition.position in
    let p = stated c.position-item.result in
    let at : c.votes_where-counted.result ≡ cond (counts p) p.votes 0 =
    c.votes_where-counted.ensures ∙ ap (λ b. cond b c.position-position.result.votes 0)
    c.counts.ensures ∙ ap (λ q. cond (counts q) q.votes 0) c.position-position.ensures in
    omega (
      arith,
      among_next-lt (map stated c.args.positions.now) c.loop-position.position-index p
          (told_less stated _ _ _ c.loop-position-test.true c.position-item.is)
          (told_is stated _ _ _ c.loop-position-test.true c.position-item.is)
          counts _ _ c.loop-position.invariant.counted at c.requires,
    )

pub overflow_add-pending : goal.overflow_add-pending
overflow_add-pending g c =
    let stated = g.P.AsPosition.position in
    let p = stated c.position-item.result in
    let at : c.votes_where-pending.result ≡ cond (is_pending p) p.votes 0 =
    c.votes_where-pending.ensures ∙ ap (λ b. cond b c.position-position.result.votes 0)
    c.is_pending.ensures ∙ ap (λ q. cond (is_pending q) q.votes 0) c.position-position.ensures
    in
    omega (
      arith,
      among_next-lt (map stated c.args.positions.now) c.loop-position.position-index p
          (told_less stated _ _ _ c.loop-position-test.true c.position-item.is)
          (told_is stated _ _ _ c.loop-position-test.true c.position-item.is)
          is_pending _ _ c.loop-position.invariant.pending at c.requires,
    )

pub loop-position-preserved : goal.loop-position-preserved
loop-position-preserved g c =
    let stated = g.P.AsPosition.position in
    let p = stated c.position-item.result in
    let less = told_less stated _ _ _ c.loop-position-test.true c.position-item.is in
    let is = told_is stated _ _ _ c.loop-position-test.true c.position-item.is in
    let counted : c.votes_where-counted.result ≡ cond (counts p) p.votes 0 =
    c.votes_where-counted.ensures ∙ ap (λ b. cond b c.position-position.result.votes 0)
    c.counts.ensures ∙ ap (λ q. cond (counts q) q.votes 0) c.position-position.ensures in
    let pending : c.votes_where-pending.result ≡ cond (is_pending p) p.votes 0 =
    c.votes_where-pending.ensures ∙ ap (λ b. cond b c.position-position.result.votes 0)
    c.is_pending.ensures ∙ ap (λ q. cond (is_pending q) q.votes 0) c.position-position.ensures
    in
    record {
      counted = among_more _ _ p less is counts _ _ c.loop-position.invariant.counted counted;
      pending = among_more _ _ p less is is_pending _ _ c.loop-position.invariant.pending pending;
    }
