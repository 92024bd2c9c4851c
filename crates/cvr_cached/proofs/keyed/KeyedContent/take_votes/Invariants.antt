use Rattle.std.proofs.Common.{◌≡◌, ◌+◌, take}
use Rattle.cvr_tally.specs.declared.key.RowKey.{RowKey}
use Rattle.cvr_cached.specs.Contents.{pairs_of, IsKeyOf}
use Rattle.cvr_fact_types.specs.Columns.{Column}
use Rattle.cvr_cached.specs.Cells.{cell, shares, has_row}
use Rattle.cvr_cached.proofs.keyed.KeyedContent.take_votes.Given as goal

abbrev pub invariant-loop-sums : goal.invariant-loop-sums
invariant-loop-sums l = record {
  key : IsKeyOf l.fn.self l.key;
  cells : (q : RowKey) (j : Column) → cell l.totals.rows q j
      + shares (take l.sums-index (pairs_of l.fn.self)) q j ≡ cell l.fn.totals.rows q j;
  stand : (q : RowKey) → has_row l.totals.rows q ≡ has_row l.fn.totals.rows q;
  moves : l.totals.moves ≡ l.fn.totals.moves + l.sums-index;
  contests : l.totals.contests ≡ l.fn.totals.contests;
}
