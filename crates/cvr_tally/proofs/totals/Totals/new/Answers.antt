use Rattle.std.proofs.Common.{ap}
use Rattle.std.specs.FinMap as rows
use Rattle.cvr_tally.proofs.Kept.{kept, none}
use Rattle.cvr_tally.proofs.totals.Totals.new.Goals as goal

pub invariant_of-result : goal.invariant_of-result
invariant_of-result c = kept _ _ _ _ (ap rows.from_entries c.new.ensures.empty) (none _)
