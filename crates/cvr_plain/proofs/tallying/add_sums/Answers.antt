-- Each of the `sums` is small and has the place and length of a contest, no two one place: so its
-- row can be opened under its `key`, and has room; after the last one, rows have what all add.
use Rattle.std.proofs.Common.{◌∙◌, refl, arith}
use Rattle.cvr_plain.proofs.AddedSums.{none_added, all_added, step_place, step_long, step_open}
use Rattle.cvr_plain.proofs.AddedSums.{step_room, step_added}
use Rattle.cvr_plain.proofs.tallying.add_sums.Goals as goal

pub loop-sums-init : goal.loop-sums-init
loop-sums-init c = record {
  same = refl;
  added = none_added c.args.totals.now.contests c.args.header.now.unit c.args.header.now.batch
      c.args.votes.now c.requires.sums c.args.totals.now.rows;
}

pub open_row-requires : goal.open_row-requires
open_row-requires c =
    step_place c.args.totals.now.contests c.args.header.now.unit c.args.header.now.batch
    c.args.votes.now c.requires.sums c.loop-sums.sums-index c.sums-item.result
    c.loop-sums-test.true c.sums-item.is
    c.in_ok-key.key c.in_ok-key.ensures c.loop-sums.totals.contests c.loop-sums.invariant.same

pub add-requires-clause-open : goal.add-requires-clause-open
add-requires-clause-open c =
    step_open c.args.totals.now.contests c.args.header.now.unit c.args.header.now.batch
    c.args.votes.now c.requires.sums c.loop-sums.sums-index c.sums-item.result
    c.loop-sums-test.true c.sums-item.is
    c.in_ok-key.key c.in_ok-key.ensures c.loop-sums.totals.contests c.loop-sums.invariant.same
    c.args.totals.now.rows c.loop-sums.totals.rows c.open_row.new.self.rows
    c.loop-sums.invariant.added
    c.in_ok-open_row.ensures.ok

pub add-requires-clause-votes : goal.add-requires-clause-votes
add-requires-clause-votes c =
    step_long c.args.totals.now.contests c.args.header.now.unit c.args.header.now.batch
    c.args.votes.now c.requires.sums c.loop-sums.sums-index c.sums-item.result
    c.loop-sums-test.true c.sums-item.is
    c.in_ok-key.key c.in_ok-key.ensures c.open_row.new.self.contests
    (c.in_ok-open_row.ensures.contests ∙ c.loop-sums.invariant.same)

pub add-requires-clause-room : goal.add-requires-clause-room
add-requires-clause-room c =
    step_room c.args.totals.now.contests c.args.header.now.unit c.args.header.now.batch
    c.args.votes.now c.requires.sums c.loop-sums.sums-index c.sums-item.result
    c.loop-sums-test.true c.sums-item.is
    c.in_ok-key.key c.in_ok-key.ensures c.loop-sums.totals.contests c.loop-sums.invariant.same
    c.args.totals.now.rows c.loop-sums.totals.rows c.open_row.new.self.rows
    c.loop-sums.invariant.added
    c.in_ok-open_row.ensures.ok c.requires.room

pub loop-sums-preserved : goal.loop-sums-preserved
loop-sums-preserved c = record {
  same = c.add.ensures.contests ∙ (c.in_ok-open_row.ensures.contests ∙ c.loop-sums.invariant.same);
  added =
      step_added c.args.totals.now.contests c.args.header.now.unit c.args.header.now.batch
      c.args.votes.now c.requires.sums c.loop-sums.sums-index c.sums-item.result
      c.loop-sums-test.true c.sums-item.is
      c.in_ok-key.key c.in_ok-key.ensures c.loop-sums.totals.contests c.loop-sums.invariant.same
      c.args.totals.now.rows c.loop-sums.totals.rows c.open_row.new.self.rows
      c.loop-sums.invariant.added
      c.in_ok-open_row.ensures.ok c.add.new.self.rows c.add.ensures.rows;
}

pub returns-clause-rows : goal.returns-clause-rows
returns-clause-rows c =
    all_added c.args.totals.now.contests c.args.header.now.unit c.args.header.now.batch
    c.args.votes.now c.requires.sums c.loop-sums.sums-index c.args.totals.now.rows
    c.loop-sums.totals.rows
    (omega (arith, c.loop-sums-test.false)) c.loop-sums.invariant.added

pub returns-clause-contests : goal.returns-clause-contests
returns-clause-contests c = c.loop-sums.invariant.same
