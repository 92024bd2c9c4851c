use Rattle.std.proofs.Common.{sym}
use Rattle.cdf_parts.proofs.ContestLists.{contest_ids-zip}
use Rattle.cdf_parts.proofs.contests.Contests.ids.Goals as goal

pub returns : goal.returns
returns c = let n = c.self.inside in rw (← c.self.view_is)
    (sym (contest_ids-zip n.ids n.selections.items c.self.invariant))
