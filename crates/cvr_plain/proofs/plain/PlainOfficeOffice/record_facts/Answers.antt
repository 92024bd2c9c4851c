use Rattle.std.proofs.Common.{sym, subst}
use Rattle.cvr_office.specs.Plain.{set_of}
use Rattle.cvr_office.specs.Readers.{AreRecordFacts}
use Rattle.cvr_office.specs.Runs.{AreSpelled}
use Rattle.cvr_plain.proofs.plain.PlainOfficeOffice.record_facts.Goals as goal

pub returns : goal.returns
returns c =
    let contests = c.self.inside.definition.contests in
    let items = c.deref.ensures.value in
    rw (← c.self.view_is)
    (subst (λ facts. AreRecordFacts contests (set_of facts) c.args.key.now c.in_ok-found.found)
    items
    (c.in_ok-found.ensures contests (subst (AreSpelled contests) (sym items)
    c.self.invariant.spelled)))
