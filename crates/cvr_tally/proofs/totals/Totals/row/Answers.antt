use Rattle.std.proofs.Common.{◌∙◌, ap, sym}
use Rattle.std.specs.FinMap as rows
use Rattle.cvr_tally.specs.Keys.{keys_total, keys_exact}
use Rattle.cvr_tally.proofs.Maps.{get-made}
use Rattle.cvr_tally.proofs.totals.Totals.row.Goals as goal

pub returns : goal.returns
returns c = c.get.ensures.value ∙ (sym (get-made keys_total keys_exact c.self.inside.rows.entries
    c.args.key.now) ∙ ap (λ t. rows.get t.rows c.args.key.now) c.self.view_is)
