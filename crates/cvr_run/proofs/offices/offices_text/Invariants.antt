use Rattle.std.proofs.Common.{◌≡◌, ◌++◌, map, length, drop, string_bytes}
use Rattle.std.specs.List.{flat_map, range_with_len}
use Rattle.cvr_run.specs.Drill.{office_line, office_lines}
use Rattle.cvr_run.proofs.offices.offices_text.Given as goal

-- the lines so far and those that are left
abbrev pub invariant-loop-place : goal.invariant-loop-place
invariant-loop-place g l =
    string_bytes l.text ++ flat_map (office_line (map g.O.Office.held l.offices))
    (drop l.place (range_with_len 0 (length (map g.O.Office.held l.offices))))
    ≡ office_lines (map g.O.Office.held l.offices)
