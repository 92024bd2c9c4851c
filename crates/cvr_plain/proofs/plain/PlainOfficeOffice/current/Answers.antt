use Rattle.std.proofs.Common.{sym, subst, option_map}
use Rattle.cvr_office.specs.Plain.{set_of}
use Rattle.cvr_office.specs.Readers.{IsCurrent}
use Rattle.cvr_office.specs.Runs.{AreSpelled}
use Rattle.cvr_plain.proofs.plain.PlainOfficeOffice.current.Goals as goal

pub returns : goal.returns
returns c =
    let contests = c.self.inside.definition.contests in
    let items = c.deref.ensures.value in
    rw (← c.self.view_is)
    (subst (λ facts. IsCurrent contests (set_of facts) c.args.key.now
    (option_map (λ s. s.now) c.current_in.result)) items
    (c.current_in.ensures contests (subst (AreSpelled contests) (sym items)
    c.self.invariant.spelled)))
