use Rattle.std.proofs.Common.{◌≡◌, ◌++◌}
use Rattle.cvr_tally.proofs.totals.copy_rows.Given as goal

-- what is copied, and what is left
abbrev pub invariant-loop-key : goal.invariant-loop-key
invariant-loop-key l = l.copies.entries ++ l.key-iterator ≡ l.rows.entries
