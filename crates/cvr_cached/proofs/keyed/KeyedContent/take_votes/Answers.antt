-- The rows have at least what is left to take out, so each of the content's `sums` finds its row
-- under the `key`, and leaves it; the row itself stays.
use Rattle.std.proofs.Common.{◌∙◌, ap, sym, arith}
use Rattle.cvr_office.specs.Adding.{key_for}
use Rattle.cvr_cached.specs.Contents.{current_sums}
use Rattle.cvr_cached.specs.Cells.{cell, has_row}
use Rattle.cvr_cached.proofs.CellSteps.{cell_minus, stands_minus, has_of, stands_of}
use Rattle.cvr_cached.proofs.Pairs.{pair_at}
use Rattle.cvr_cached.proofs.VoteLists.{shares_more, left, long_at}
use Rattle.cvr_cached.proofs.keyed.KeyedContent.take_votes.Goals as goal

pub take-requires-clause-open : goal.take-requires-clause-open
take-requires-clause-open c =
    let at = pair_at c.args.self.now c.loop-sums.key c.loop-sums.invariant.key
    (c.votes-sums-items.ensures ∙ ap current_sums c.self.view_is)
    c.loop-sums-test.true c.sums-item.is in
    stands_of c.loop-sums.totals.rows _ _
    (left at c.loop-sums.totals.rows c.args.totals.now.rows c.loop-sums.invariant.cells
    c.requires.enough)

pub take-requires-clause-votes : goal.take-requires-clause-votes
take-requires-clause-votes c =
    let at = pair_at c.args.self.now c.loop-sums.key c.loop-sums.invariant.key
    (c.votes-sums-items.ensures ∙ ap current_sums c.self.view_is)
    c.loop-sums-test.true c.sums-item.is in
    long_at at c.args.totals.now.contests c.loop-sums.totals.contests c.loop-sums.invariant.contests
    c.requires.fit

pub take-requires-clause-has : goal.take-requires-clause-has
take-requires-clause-has c =
    let at = pair_at c.args.self.now c.loop-sums.key c.loop-sums.invariant.key
    (c.votes-sums-items.ensures ∙ ap current_sums c.self.view_is)
    c.loop-sums-test.true c.sums-item.is in
    has_of c.loop-sums.totals.rows _ _ (left at c.loop-sums.totals.rows c.args.totals.now.rows
    c.loop-sums.invariant.cells c.requires.enough)

pub loop-sums-preserved : goal.loop-sums-preserved
loop-sums-preserved c =
    let at = pair_at c.args.self.now c.loop-sums.key c.loop-sums.invariant.key
    (c.votes-sums-items.ensures ∙ ap current_sums c.self.view_is)
    c.loop-sums-test.true c.sums-item.is in
    let v = c.sums-item.result in
    let k = key_for c.loop-sums.key.unit c.loop-sums.key.batch v in
    let m = c.loop-sums.totals.rows in
    let inv = c.loop-sums.invariant in
    let fit = long_at at c.args.totals.now.contests c.loop-sums.totals.contests inv.contests
    c.requires.fit in
    record {
      key = inv.key;
      cells = λ q j. omega (
        arith,
        ap (λ m. cell m q j) c.take.ensures.rows,
        cell_minus m k v (λ r at. c.take.ensures.whole.votes k r at ∙ sym fit)
            (left at m c.args.totals.now.rows inv.cells c.requires.enough) q j,
        shares_more at q j,
        inv.cells q j,
      );
      stand = λ q. ap (λ m. has_row m q) c.take.ensures.rows ∙ (stands_minus m k v q ∙ inv.stand q);
      moves = omega (arith, c.take.ensures.moves, inv.moves);
      contests = c.take.ensures.contests ∙ inv.contests;
    }
