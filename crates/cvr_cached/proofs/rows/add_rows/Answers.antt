use Rattle.cvr_cached.proofs.Opening.{fit_at}
use Rattle.cvr_cached.proofs.rows.add_rows.Goals as goal

pub add_votes-requires-clause-fit : goal.add_votes-requires-clause-fit
add_votes-requires-clause-fit c = fit_at c.contents-item.result c.loop-content.invariant.same
    c.loop-content.invariant.contests c.loop-content-test.true c.requires.fit
