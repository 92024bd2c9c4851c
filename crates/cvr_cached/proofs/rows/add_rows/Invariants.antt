use Rattle.std.proofs.Common.{◌≡◌, ◌+◌, length, take}
use Rattle.std.specs.List.{sum_by}
use Rattle.cvr_tally.specs.declared.key.RowKey.{RowKey}
use Rattle.cvr_cached.specs.Contents.{pairs_of}
use Rattle.cvr_fact_types.specs.Columns.{Column}
use Rattle.cvr_cached.specs.Cells.{cell, shares, has_row}
use Rattle.cvr_cached.proofs.rows.add_rows.Given as goal

abbrev pub invariant-loop-content : goal.invariant-loop-content
invariant-loop-content l = record {
  same : l.contents ≡ l.fn.contents;
  cells : (q : RowKey) (j : Column) → cell l.totals.rows q j
      ≡ cell l.fn.totals.rows q j + sum_by (λ c. shares (pairs_of c.1) q j)
      (take l.content-index l.fn.contents);
  stand : (q : RowKey) → has_row l.totals.rows q ≡ has_row l.fn.totals.rows q;
  moves : l.totals.moves ≡ l.fn.totals.moves
      + sum_by (λ c. length (pairs_of c.1)) (take l.content-index l.fn.contents);
  contests : l.totals.contests ≡ l.fn.totals.contests;
}
