use Rattle.std.proofs.Common.{◌≡◌, cond, List, subst}
use Rattle.std.specs.FinMap.{get}
use Rattle.cvr_tally.specs.Rows.{row_closed}
use Rattle.cvr_tally.specs.declared.key.RowKey.{RowKey}
use Rattle.cvr_office.specs.declared.any_fact.AnyFact.{AnyFact}
use Rattle.cvr_cached.specs.Cells.{is_row_of}
use Rattle.cvr_cached.proofs.Putting.{agrees_after}
use Rattle.cvr_cached.proofs.commit.leave.Goals as goal

pub returns-clause-agrees : goal.returns-clause-agrees
returns-clause-agrees c = λ u zeros agrees.
    let n = c.take_votes.new.totals.rows in
    let o = c.close_rows.new.totals.rows in
    agrees_after c.args.content.now u c.args.totals.now.rows n o zeros agrees c.take_votes.ensures.cells
    c.take_votes.ensures.stand
    (subst (λ (facts : List AnyFact). (q : RowKey)
    → get o q ≡ cond (is_row_of facts q) (row_closed (get n q)) (get n q))
    c.take_votes.ensures.same c.close_rows.ensures.rows)
