use Rattle.std.proofs.Common.{List, sym, subst}
use Rattle.cvr_office.specs.declared.any_fact.AnyFact.{AnyFact}
use Rattle.cvr_cached.specs.Shown.{IsShown}
use Rattle.cvr_cached.proofs.ShownFacts.{fact_among, remembered_among}
use Rattle.cvr_cached.proofs.content.RecordContent.among.Goals as goal

pub place_among-header-requires-clause-among : goal.place_among-header-requires-clause-among
place_among-header-requires-clause-among c =
    let shown = subst (λ (few : List AnyFact). IsShown few c.args.facts.items) (sym c.self.view_is)
    c.requires.shown in
    rw (c.deref-2.ensures.value, c.deref.ensures.value)
    (fact_among c.self.inside.facts.items c.args.facts.items shown.among c.self.inside.header)

pub place_among-current-requires-clause-among : goal.place_among-current-requires-clause-among
place_among-current-requires-clause-among c =
    let shown = subst (λ (few : List AnyFact). IsShown few c.args.facts.items) (sym c.self.view_is)
    c.requires.shown in
    rw (c.deref-4.ensures.value, c.deref-3.ensures.value)
    (fact_among c.self.inside.facts.items c.args.facts.items shown.among c.self.inside.current)

pub invariant_of-result : goal.invariant_of-result
invariant_of-result c =
    let shown = subst (λ (few : List AnyFact). IsShown few c.args.facts.items) (sym c.self.view_is)
    c.requires.shown in
    remembered_among c.self.inside.facts.items c.args.facts.items c.self.inside.header
    c.self.inside.current c.place_among-header.result c.place_among-current.result
    c.self.invariant c.requires.rises shown
    (rw (c.deref.ensures.value, c.deref-2.ensures.value) at c.place_among-header.ensures)
    (rw (c.deref-3.ensures.value, c.deref-4.ensures.value) at c.place_among-current.ensures)
