use Rattle.std.proofs.Common.{option_map}
use Rattle.cvr_lists.proofs.CountedRecords.{Counted}
use Rattle.cvr_lists.proofs.records.record_count_in.Given as goal

abbrev pub invariant-loop-fact : goal.invariant-loop-fact
invariant-loop-fact l = Counted l.facts l.fact-index l.count (option_map (λ k. k.now) l.last)
