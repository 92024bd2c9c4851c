use Rattle.std.proofs.Common.{◌∙◌, ap, subst}
use Rattle.cvr_tally.specs.Contests.{contests_of}
use Rattle.cvr_tally.specs.Rows.{IsTotals}
use Rattle.cvr_tally.proofs.totals.Totals.contests.Goals as goal

pub returns-clause-ids : goal.returns-clause-ids
returns-clause-ids c = ap contests_of c.as_slice.ensures.value ∙ ap (λ t. t.contests) c.self.view_is

pub returns-clause-rows : goal.returns-clause-rows
returns-clause-rows c = subst IsTotals c.self.view_is c.self.invariant
