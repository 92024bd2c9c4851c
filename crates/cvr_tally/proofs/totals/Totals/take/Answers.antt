use Rattle.std.proofs.Common.{◌≡◌, ◌∙◌, ap, sym, subst, length}
use Rattle.std.specs.Option.{IfSome}
use Rattle.std.specs.FinMap as rows
use Rattle.cdf_parts.specs.Places.{selections_at}
use Rattle.cvr_tally.specs.Keys.{keys_total, keys_exact}
use Rattle.cvr_tally.specs.Rows.{HasSums, row_minus, rows_minus}
use Rattle.cvr_tally.proofs.Maps.{get-made, mapped_at}
use Rattle.cvr_tally.proofs.Kept.{are_of, kept, minus, long_at}
use Rattle.cvr_tally.proofs.totals.Totals.take.Goals as goal

pub take_at-requires-clause-long : goal.take_at-requires-clause-long
take_at-requires-clause-long c =
    let long : length c.args.sums.now.votes
    ≡ length (selections_at _ c.args.key.now.contest) = c.requires.votes
    ∙ ap (λ t. length (selections_at t.contests c.args.key.now.contest)) (sym c.self.view_is) in
    subst (λ r. IfSome r (λ row. length c.args.sums.now.votes ≡ length row.votes))
    (get-made keys_total keys_exact c.self.inside.rows.entries c.args.key.now)
    (long_at _ (rows.from_entries c.self.inside.rows.entries) c.args.key.now c.args.sums.now long
    (are_of _ _ _ c.self.invariant))

pub take_at-requires-clause-has : goal.take_at-requires-clause-has
take_at-requires-clause-has c =
    subst (λ r. IfSome r (λ row. HasSums row c.args.sums.now))
    (ap (λ t. rows.get t.rows c.args.key.now) (sym c.self.view_is)
    ∙ get-made keys_total keys_exact c.self.inside.rows.entries c.args.key.now) c.requires.has

pub invariant_of-self : goal.invariant_of-self
invariant_of-self c =
    let new = mapped_at keys_total keys_exact (λ r. row_minus r c.args.sums.now)
    c.self.inside.rows.entries c.take_at.new.rows.entries c.args.key.now c.take_at.ensures.here
    c.take_at.ensures.others in
    kept _ _ _ _ new (minus _ (rows.from_entries c.self.inside.rows.entries) c.args.key.now
    c.args.sums.now (are_of _ _ _ c.self.invariant))

pub returns-clause-rows : goal.returns-clause-rows
returns-clause-rows c =
    mapped_at keys_total keys_exact (λ r. row_minus r c.args.sums.now) c.self.inside.rows.entries
    c.take_at.new.rows.entries c.args.key.now c.take_at.ensures.here c.take_at.ensures.others
    ∙ ap (λ t. rows_minus t.rows c.args.key.now c.args.sums.now) c.self.view_is
