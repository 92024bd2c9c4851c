use Rattle.std.proofs.Common.{◌∙◌, sym, ap}
use Rattle.std.proofs.lemmas.Map.Iter.{rest_more, rest_all}
use Rattle.std.specs.Map.Iter.{deref_pair}
use Rattle.cvr_cached.proofs.NextOver.{first_of, above_is}
use Rattle.cvr_cached.proofs.listing.next_above.Goals as goal

pub returns-in-Some : goal.returns-in-Some
returns-in-Some c =
    let rest = rest_more deref_pair c.range.result c.next.new.self c.next.result _ c.in-Some.is
    c.next.ensures.steps in
    sym (above_is c.args.records.now.entries c.args.name.now
    ∙ (ap first_of (sym (c.range.ensures.between tt)) ∙ ap first_of rest))

pub returns-in-None : goal.returns-in-None
returns-in-None c =
    let none = rest_all deref_pair c.range.result c.next.new.self c.next.result c.in-None.is
    c.next.ensures.steps in
    sym (above_is c.args.records.now.entries c.args.name.now
    ∙ (ap first_of (sym (c.range.ensures.between tt)) ∙ ap first_of none))
