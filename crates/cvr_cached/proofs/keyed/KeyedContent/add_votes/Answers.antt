-- Each of the content's `sums` finds its row open under the `key`, for as many selections as it has
-- and with room for it; the cells gain just what it adds, and moves count one more.
use Rattle.std.proofs.Common.{◌∙◌, ap, sym, arith}
use Rattle.cvr_office.specs.Adding.{key_for}
use Rattle.cvr_cached.specs.Contents.{current_sums}
use Rattle.cvr_cached.specs.Cells.{cell, has_row}
use Rattle.cvr_cached.proofs.CellSteps.{cell_plus, stands_plus, room_of}
use Rattle.cvr_cached.proofs.Pairs.{pair_at}
use Rattle.cvr_cached.proofs.VoteLists.{shares_more, room, long_at, row_here}
use Rattle.cvr_cached.proofs.keyed.KeyedContent.add_votes.Goals as goal

pub add-requires-clause-open : goal.add-requires-clause-open
add-requires-clause-open c =
    let at = pair_at c.args.self.now c.loop-sums.key c.loop-sums.invariant.key
    (c.votes-sums-items.ensures ∙ ap current_sums c.self.view_is)
    c.loop-sums-test.true c.sums-item.is in
    c.loop-sums.invariant.stand _ ∙ c.requires.open_at _ (row_here at)

pub add-requires-clause-votes : goal.add-requires-clause-votes
add-requires-clause-votes c =
    let at = pair_at c.args.self.now c.loop-sums.key c.loop-sums.invariant.key
    (c.votes-sums-items.ensures ∙ ap current_sums c.self.view_is)
    c.loop-sums-test.true c.sums-item.is in
    long_at at c.args.totals.now.contests c.loop-sums.totals.contests c.loop-sums.invariant.contests
    c.requires.fit

pub add-requires-clause-room : goal.add-requires-clause-room
add-requires-clause-room c =
    let at = pair_at c.args.self.now c.loop-sums.key c.loop-sums.invariant.key
    (c.votes-sums-items.ensures ∙ ap current_sums c.self.view_is)
    c.loop-sums-test.true c.sums-item.is in
    room_of c.loop-sums.totals.rows _ _
    (room at c.loop-sums.totals.rows c.args.totals.now.rows c.loop-sums.invariant.cells
    c.requires.room)

pub loop-sums-preserved : goal.loop-sums-preserved
loop-sums-preserved c =
    let at = pair_at c.args.self.now c.loop-sums.key c.loop-sums.invariant.key
    (c.votes-sums-items.ensures ∙ ap current_sums c.self.view_is)
    c.loop-sums-test.true c.sums-item.is in
    let v = c.sums-item.result in
    let k = key_for c.loop-sums.key.unit c.loop-sums.key.batch v in
    let m = c.loop-sums.totals.rows in
    let inv = c.loop-sums.invariant in
    let fit = long_at at c.args.totals.now.contests c.loop-sums.totals.contests inv.contests
    c.requires.fit in
    let is_open = inv.stand k ∙ c.requires.open_at k (row_here at) in
    record {
      key = inv.key;
      cells = λ q j. omega (
        arith,
        ap (λ m. cell m q j) c.add.ensures.rows,
        cell_plus m k v (λ r at. c.add.ensures.whole.votes k r at ∙ sym fit) is_open q j,
        shares_more at q j,
        inv.cells q j,
      );
      stand = λ q. ap (λ m. has_row m q) c.add.ensures.rows ∙ (stands_plus m k v q ∙ inv.stand q);
      moves = omega (arith, c.add.ensures.moves, inv.moves);
      contests = c.add.ensures.contests ∙ inv.contests;
    }
