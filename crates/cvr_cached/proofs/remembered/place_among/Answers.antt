use Rattle.std.proofs.Common.{◌∙◌, sym, ap, subst}
use Rattle.std.specs.List.{Contains}
use Rattle.std.specs.Option.{IfSome}
use Rattle.cvr_cached.specs.Shown.{fact_at}
use Rattle.cvr_cached.proofs.ShownFacts.{found_at}
use Rattle.cvr_cached.proofs.remembered.place_among.Goals as goal

pub returns : goal.returns
returns c =
    let facts = c.args.facts.now in
    let is = c.in_ok-fact_at.ensures in
    let there = subst (λ o. IfSome o (Contains facts)) (sym is) c.requires.among in
    ap (fact_at facts) c.ok.ensures.value
    ∙ (found_at facts c.in_ok-fact_at.field-0.now c.binary_search.result c.requires.rises there
    c.binary_search.ensures.bound c.binary_search.ensures.position ∙ is)
