use Rattle.std.proofs.Common.{◌≡◌, ◌<◌, ◌++◌, length, string_bytes}
use Rattle.std.specs.List.{AllByRecursion, flat_map}
use Rattle.cvr_tally.specs.Contests.{contests_of}
use Rattle.cvr_tally.specs.Text.{row_line, tally_text}
use Rattle.cvr_tally.proofs.tally.tally_text.Given as goal

-- the text so far and the lines of the rows that are left, which are rows of the contests
abbrev pub invariant-loop-key : goal.invariant-loop-key
invariant-loop-key l = record {
  text : string_bytes l.text ++ flat_map (row_line (contests_of l.contests)) l.key-iterator
      ≡ tally_text l.totals.contests l.totals.rows;
  within : AllByRecursion (λ e. e.0.contest < length l.contests) l.key-iterator;
}
