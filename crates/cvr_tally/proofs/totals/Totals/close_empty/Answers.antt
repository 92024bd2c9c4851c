use Rattle.std.proofs.Common.{◌∙◌, ◌==◌, ap}
use Rattle.std.specs.FinMap as rows
use Rattle.cvr_tally.specs.Keys.{keys_total, keys_exact}
use Rattle.cvr_tally.specs.Rows.{rows_closed}
use Rattle.cvr_tally.proofs.Maps.{closed_at}
use Rattle.cvr_tally.proofs.Kept.{are_of, kept, closed}
use Rattle.cvr_tally.proofs.totals.Totals.close_empty.Goals as goal

pub invariant_of-self : goal.invariant_of-self
invariant_of-self c =
    let new = closed_at keys_total keys_exact (λ r. r.ballots == 0) c.self.inside.rows.entries
    c.close_at.new.rows.entries c.args.key.now c.close_at.ensures.here c.close_at.ensures.others
    in
    kept _ _ _ _ new (closed _ (rows.from_entries c.self.inside.rows.entries) c.args.key.now
    (are_of _ _ _ c.self.invariant))

pub returns-clause-rows : goal.returns-clause-rows
returns-clause-rows c =
    closed_at keys_total keys_exact (λ r. r.ballots == 0) c.self.inside.rows.entries
    c.close_at.new.rows.entries c.args.key.now c.close_at.ensures.here c.close_at.ensures.others
    ∙ ap (λ t. rows_closed t.rows c.args.key.now) c.self.view_is
