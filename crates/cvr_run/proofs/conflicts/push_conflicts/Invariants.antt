use Rattle.std.proofs.Common.{◌≡◌, ◌++◌, drop, string_bytes}
use Rattle.std.specs.List.{flat_map}
use Rattle.cvr_run.specs.Currents.{conflict_line}
use Rattle.cvr_run.proofs.conflicts.push_conflicts.Given as goal

-- the text so far and the lines of the conflicts that are left
abbrev pub invariant-loop-conflict : goal.invariant-loop-conflict
invariant-loop-conflict l = string_bytes l.text
    ++ flat_map conflict_line (drop l.conflict-index l.list)
    ≡ string_bytes l.initial.text ++ flat_map conflict_line l.list
