use Rattle.std.proofs.Common.{◌≡◌, ◌+◌, map, get_or, drop}
use Rattle.std.specs.FinSet.{empty}
use Rattle.std.specs.List.{position_or_len}
use Rattle.cvr_run.specs.Drill.{are_same}
use Rattle.cvr_run.proofs.offices.same_place.Given as goal

-- it is none of those so far
abbrev pub invariant-loop-other : goal.invariant-loop-other
invariant-loop-other g l =
    position_or_len (are_same (get_or (map g.O.Office.held l.offices) l.place empty))
    (map g.O.Office.held l.offices)
    ≡ l.other + position_or_len (are_same (get_or (map g.O.Office.held l.offices) l.place empty))
    (drop l.other (map g.O.Office.held l.offices))
