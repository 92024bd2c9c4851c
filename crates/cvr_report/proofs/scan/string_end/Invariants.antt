use Rattle.std.proofs.Common.{ℕ, length, ◌-◌, ◌≡◌, ◌≤◌, drop}
use Rattle.cvr_report.specs.Scan.{InString, left_after}
use Rattle.cvr_report.proofs.scan.string_end.Given as goal

abbrev pub invariant-bytes : goal.invariant-bytes
invariant-bytes l = record {
  same : (depth : ℕ) → left_after InString depth (drop l.at l.text)
      ≡ left_after InString depth (drop l.from l.text);
  low : l.from ≤ l.at;
  high : l.at ≤ length l.text;
}

abbrev pub decreases-bytes : goal.decreases-bytes
decreases-bytes l = length l.text - l.at
