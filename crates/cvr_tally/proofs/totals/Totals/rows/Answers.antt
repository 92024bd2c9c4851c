use Rattle.std.proofs.Common.{◌∙◌, ap, sym}
use Rattle.std.specs.FinMap as rows
use Rattle.cvr_tally.specs.Keys.{keys_total, keys_exact}
use Rattle.cvr_tally.proofs.Maps.{entries-made}
use Rattle.cvr_tally.proofs.totals.Totals.rows.Goals as goal

pub returns-clause-rest : goal.returns-clause-rest
returns-clause-rest c = c.iter.ensures.rest
    ∙ (sym (entries-made keys_total keys_exact c.self.inside.rows.entries c.iter.ensures.ordered)
    ∙ ap (λ t. rows.entries t.rows) c.self.view_is)
