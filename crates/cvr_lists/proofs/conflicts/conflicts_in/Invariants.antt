use Rattle.std.proofs.Common.{◌≡◌, ◌++◌, length}
use Rattle.cvr_lists.specs.NameRuns.{counted_runs, of_several}
use Rattle.cvr_lists.proofs.conflicts.conflicts_in.Given as goal

abbrev pub invariant-loop-first : goal.invariant-loop-first
invariant-loop-first l =
    l.list ++ of_several (counted_runs l.rest) ≡ of_several (counted_runs l.fn.facts)

abbrev pub decreases-loop-first : goal.decreases-loop-first
decreases-loop-first l = length l.rest
