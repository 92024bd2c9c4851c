use Rattle.std.proofs.Common.{◌≡◌, take, true, false}
use Rattle.std.specs.List.{list_any}
use Rattle.std.specs.FinMap.{get}
use Rattle.cvr_tally.specs.Keys.{is_key}
use Rattle.cvr_tally.specs.Rows.{row_closed}
use Rattle.cvr_tally.specs.declared.key.RowKey.{RowKey}
use Rattle.cvr_cached.specs.Contents.{pairs_of, IsKeyOf}
use Rattle.cvr_fact_types.specs.Columns.{Column}
use Rattle.cvr_cached.specs.Cells.{cell, has_row}
use Rattle.cvr_cached.proofs.keyed.KeyedContent.open_rows.Given as goal

abbrev pub invariant-loop-sums : goal.invariant-loop-sums
invariant-loop-sums l = record {
  key : IsKeyOf l.fn.self l.key;
  here : (q : RowKey) → list_any (λ p. is_key q p.0) (take l.sums-index (pairs_of l.fn.self)) ≡ true
      → has_row l.totals.rows q ≡ true;
  stay : (q : RowKey) → has_row l.fn.totals.rows q ≡ true → has_row l.totals.rows q ≡ true;
  cells : (q : RowKey) (j : Column) → cell l.totals.rows q j ≡ cell l.fn.totals.rows q j;
  others : (q : RowKey) → list_any (λ p. is_key q p.0) (pairs_of l.fn.self) ≡ false
      → get l.totals.rows q ≡ get l.fn.totals.rows q;
  closed : (q : RowKey) → row_closed (get l.totals.rows q) ≡ row_closed (get l.fn.totals.rows q);
  moves : l.totals.moves ≡ l.fn.totals.moves;
  contests : l.totals.contests ≡ l.fn.totals.contests;
}
