use Rattle.std.proofs.Common.{◌≡◌, ◌∙◌, List, ℕ, map, sym, ap, arith}
use Rattle.std.specs.Prelude.{max}
use Rattle.std.proofs.lemmas.Map.Iter.{rest_more, rest_all}
use Rattle.std.specs.Map.Iter.{deref_pair}
use Rattle.cvr_fact_types.specs.declared.name.RecordName.{RecordName}
use Rattle.cvr_office.specs.declared.any_fact.AnyFact.{AnyFact}
use Rattle.cvr_office.specs.Names.{most, greatest_count}
use Rattle.cvr_office.specs.Plain.{set_of}
use Rattle.cvr_lists.proofs.Lemmas.{most-cons}
use Rattle.cvr_cached.proofs.listing.greatest_count_over.Goals as goal

abbrev of : List (RecordName × List AnyFact) → List ℕ
of es = map (λ e. greatest_count (set_of e.1)) es

pub loop-content-init : goal.loop-content-init
loop-content-init c =
    let all = c.args.records.now.entries in
    let is : c.into_iter-content-iterator.result ≡ all =
    c.into_iter-content-iterator.ensures.into_iter_gives ∙ c.iter-content-items.ensures.rest in
    (λ i. max (c.greatest_count_in-greatest.ensures i) (most (of (is i))))
    ∙ sym (most-cons (greatest_count (set_of c.args.devices.now)) (of all))

pub loop-content-preserved : goal.loop-content-preserved
loop-content-preserved c =
    let rest = rest_more deref_pair c.loop-content.content-iterator c.next.new.self c.next.result _
    c.in-Some.is c.next.ensures.steps in
    let here =
    c.greatest_count_in.ensures ∙ ap (λ xs. greatest_count (set_of xs)) c.facts.ensures.is in
    let left = ap (λ es. most (of es)) rest
    ∙ most-cons (greatest_count (set_of c.in-Some.content.now)) (of c.next.new.self) in
    omega (arith, left, here, c.loop-content.invariant, c.max-greatest.ensures)

pub returns : goal.returns
returns c =
    let none = rest_all deref_pair c.loop-content.content-iterator c.next.new.self c.next.result
    c.in-None.is c.next.ensures.steps in
    let left = ap (λ es. most (of es)) none in
    omega (arith, c.loop-content.invariant, left)
