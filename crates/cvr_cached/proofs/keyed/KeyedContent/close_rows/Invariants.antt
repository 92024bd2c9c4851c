use Rattle.std.proofs.Common.{◌≡◌, take, if◌then◌else◌}
use Rattle.std.specs.List.{list_any}
use Rattle.std.specs.FinMap.{get}
use Rattle.cvr_tally.specs.Keys.{is_key}
use Rattle.cvr_tally.specs.Rows.{row_closed}
use Rattle.cvr_tally.specs.declared.key.RowKey.{RowKey}
use Rattle.cvr_cached.specs.Contents.{pairs_of, IsKeyOf}
use Rattle.cvr_cached.proofs.keyed.KeyedContent.close_rows.Given as goal

abbrev pub invariant-loop-sums : goal.invariant-loop-sums
invariant-loop-sums l = record {
  key : IsKeyOf l.fn.self l.key;
  rows : (q : RowKey) → get l.totals.rows q
      ≡ (if list_any (λ p. is_key q p.0) (take l.sums-index (pairs_of l.fn.self))
      then row_closed (get l.fn.totals.rows q) else get l.fn.totals.rows q);
  moves : l.totals.moves ≡ l.fn.totals.moves;
  contests : l.totals.contests ≡ l.fn.totals.contests;
}
