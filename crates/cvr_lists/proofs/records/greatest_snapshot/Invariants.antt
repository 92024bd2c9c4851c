use Rattle.std.proofs.Common.{take, option_map}
use Rattle.cvr_office.specs.Runs.{snapshots, IsChosen}
use Rattle.cvr_lists.proofs.records.greatest_snapshot.Given as goal

abbrev pub invariant-loop-fact : goal.invariant-loop-fact
invariant-loop-fact l =
    IsChosen (snapshots (take l.fact-index l.run)) (option_map (λ s. s.now) l.greatest)
