use Rattle.std.proofs.Common.{◌∙◌, ◌++◌, List, sym, ap, append_assoc, append-nil}
use Rattle.std.proofs.lemmas.Map.Iter.{rest_more, rest_all}
use Rattle.std.specs.List.{flat_map}
use Rattle.std.specs.Map.Iter.{deref_pair}
use Rattle.cvr_fact_types.specs.declared.name.RecordName.{RecordName}
use Rattle.cvr_office.specs.declared.any_fact.AnyFact.{AnyFact}
use Rattle.cvr_office.specs.declared.conflict.Conflict.{Conflict}
use Rattle.cvr_office.specs.Names.{conflicts}
use Rattle.cvr_office.specs.Plain.{set_of}
use Rattle.cvr_cached.proofs.listing.conflicts_over.Goals as goal

abbrev of : List (RecordName × List AnyFact) → List Conflict
of es = flat_map (λ e. conflicts (set_of e.1)) es

pub loop-content-preserved : goal.loop-content-preserved
loop-content-preserved c =
    let rest = rest_more deref_pair c.loop-content.content-iterator c.next.new.self c.next.result _
    c.in-Some.is c.next.ensures.steps in
    let more = c.into_vec.ensures ∙ (c.in_ok-conflicts_in-2.ensures
    ∙ ap (λ xs. conflicts (set_of xs)) c.facts.ensures.is) in
    ap (λ xs. xs ++ of c.next.new.self)
    (c.in_ok-append.ensures.items ∙ ap (λ xs. c.loop-content.list.items ++ xs) more)
    ∙ (append_assoc c.loop-content.list.items _ (of c.next.new.self)
    ∙ (ap (λ es. c.loop-content.list.items ++ of es) (sym rest) ∙ c.loop-content.invariant))

pub returns : goal.returns
returns c =
    let none = rest_all deref_pair c.loop-content.content-iterator c.next.new.self c.next.result
    c.in-None.is c.next.ensures.steps in
    c.new.ensures ∙ (sym (append-nil _)
    ∙ (ap (λ es. c.loop-content.list.items ++ of es) (sym none) ∙ c.loop-content.invariant))
