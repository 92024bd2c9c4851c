use Rattle.std.proofs.Common.{ap, subst, sym, ◌∙◌}
use Rattle.cvr_office.specs.Readers.{growth}
use Rattle.cvr_office.specs.Plain.{set_of}
use Rattle.cvr_office.specs.Runs.{AreSpelled}
use Rattle.cvr_plain.proofs.Lists.{import_is, plain_import}
use Rattle.cvr_plain.proofs.plain.PlainOfficeOffice.import.Goals as goal

pub invariant_of-self-2 : goal.invariant_of-self-2
invariant_of-self-2 c =
    let told = ap set_of c.in_ok-append.ensures.items ∙ c.in_ok-file.ensures.facts in
    plain_import c.self.inside.definition c.args.bytes.now _ _ _ told c.in_ok-new_facts.ensures.put
    (subst (AreSpelled c.self.inside.definition.contests) (sym c.in_ok-append.ensures.items)
    c.in_ok-file.ensures.spelled)
    c.in_ok-file.ensures.valid c.self.invariant

pub returns-clause-content : goal.returns-clause-content
returns-clause-content c =
    let told = ap set_of c.in_ok-append.ensures.items ∙ c.in_ok-file.ensures.facts in
    rw (← c.self.view_is) (import_is c.self.inside.definition c.args.bytes.now _ _ _ told
    c.in_ok-new_facts.ensures.put)

pub returns-clause-new_facts : goal.returns-clause-new_facts
returns-clause-new_facts c =
    let told = ap set_of c.in_ok-append.ensures.items ∙ c.in_ok-file.ensures.facts in
    rw (← c.self.view_is)
    (c.in_ok-new_facts.ensures.new ∙ ap (growth (set_of c.self.inside.facts.items)) told)
