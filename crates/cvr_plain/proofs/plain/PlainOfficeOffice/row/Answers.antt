use Rattle.std.proofs.Common.{◌≡◌, subst}
use Rattle.cvr_office.specs.Plain.{set_of}
use Rattle.cvr_office.specs.Tallied.{row}
use Rattle.cvr_plain.proofs.plain.PlainOfficeOffice.row.Goals as goal

pub returns-clause-row : goal.returns-clause-row
returns-clause-row c =
    rw (← c.self.view_is)
    (subst (λ facts. c.in_ok-found.found
    ≡ row c.self.inside.definition.contests (set_of facts) c.args.key.now) c.deref.ensures.value
    c.in_ok-found.ensures.row)
