use Rattle.std.proofs.Common.{◌≡◌, take, map}
use Rattle.cvr_tally.proofs.contest_ids.contest_ids.Given as goal

abbrev pub invariant-loop-contest : goal.invariant-loop-contest
invariant-loop-contest l =
    map (λ c. (c.id, c.selections)) l.ids.items ≡ take l.contest l.definition.contests
