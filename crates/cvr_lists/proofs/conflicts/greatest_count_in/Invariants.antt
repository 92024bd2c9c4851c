use Rattle.std.proofs.Common.{◌≡◌, length}
use Rattle.std.specs.Prelude.{max}
use Rattle.cvr_lists.specs.NameRuns.{counted_runs, most_of}
use Rattle.cvr_lists.proofs.conflicts.greatest_count_in.Given as goal

abbrev pub invariant-loop-first : goal.invariant-loop-first
invariant-loop-first l =
    max l.greatest (most_of (counted_runs l.rest)) ≡ most_of (counted_runs l.fn.facts)

abbrev pub decreases-loop-first : goal.decreases-loop-first
decreases-loop-first l = length l.rest
