use Rattle.std.proofs.Common.{List, sym, subst}
use Rattle.std.specs.List.Sorted.{IsStrictlySortedBy}
use Rattle.cvr_office.specs.declared.any_fact.AnyFact.{AnyFact}
use Rattle.cvr_office.specs.Place.{any_cmp}
use Rattle.cvr_cached.specs.Shown.{IsShown}
use Rattle.cvr_cached.proofs.ShownFacts.{shown_is}
use Rattle.cvr_cached.proofs.content.RecordContent.shown_with.Goals as goal

pub put_in-requires : goal.put_in-requires
put_in-requires c =
    subst (IsStrictlySortedBy any_cmp) (sym c.in_ok-facts.ensures) c.requires.rises

pub returns : goal.returns
returns c = λ new all.
    let put = rw c.in_ok-facts.ensures at c.in_ok-put_in.ensures.put in
    subst (λ (few : List AnyFact). IsShown few new) (sym c.of.ensures)
    (shown_is c.args.self.now c.args.fresh.now c.in_ok-found.found.items c.put_in.new.facts.items
    new c.remembered.ensures.rises c.requires.rises c.requires.apart c.in_ok-found.ensures.chosen
    put all)
