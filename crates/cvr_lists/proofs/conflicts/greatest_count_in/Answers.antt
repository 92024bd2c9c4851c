use Rattle.std.proofs.Common.{ap, arith}
use Rattle.cvr_lists.specs.NameRuns.{counted_runs, most_of}
use Rattle.cvr_lists.proofs.ConflictLists.{greatest_count-is}
use Rattle.cvr_lists.proofs.NameSteps.{cut, max_by-more, runs-end}
use Rattle.cvr_lists.proofs.conflicts.greatest_count_in.Goals as goal

pub loop-first-preserved : goal.loop-first-preserved
loop-first-preserved c =
    max_by-more _ _ _ _
    (cut _ _ _ _ _ c.in-Some.ensures.value c.run_len.ensures.count c.split_at.ensures.front_len
    c.split_at.ensures.back)
    _ _ _ c.loop-first.invariant (cc)

pub returns : goal.returns
returns c =
    let done = runs-end c.loop-first.rest.now c.in_default.ensures.value in
    let none = ap (λ xs. most_of (counted_runs xs)) done in
    omega (arith, c.loop-first.invariant, none, greatest_count-is c.args.facts.now c.requires)
