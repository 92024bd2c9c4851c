use Rattle.std.proofs.Common.{◌∙◌, ap, arith}
use Rattle.cvr_office.specs.Plain.{set_of}
use Rattle.cvr_lists.proofs.Laws.{start_is, plain_start}
use Rattle.cvr_lists.proofs.Lemmas.{none_rise}
use Rattle.cvr_cached.proofs.Begins.{alone, held_start, cached_start}
use Rattle.cvr_cached.proofs.store.Store.new.Goals as goal

pub put_in-requires : goal.put_in-requires
put_in-requires c = none_rise c.new-devices.result.items c.new-devices.ensures.items

pub invariant_of-result : goal.invariant_of-result
invariant_of-result c =
    held_start c.args.definition.now _ _ _ c.new-devices.ensures.items c.in_ok-own_devices.ensures
    c.in_ok-put_in.ensures.put c.new-2.result.entries c.new-2.ensures.empty
    c.in_ok-totals.totals c.len-count.result (ap (λ t. t.rows) c.in_ok-totals.ensures)
    (c.len-count.ensures ∙ c.put_in.new.facts.ok.0)
    (let fits = c.len-count.type_inv in omega (arith, fits))

pub returns-clause-cached : goal.returns-clause-cached
returns-clause-cached c =
    cached_start c.args.definition.now _ _ _ c.new-devices.ensures.items c.in_ok-own_devices.ensures
    c.in_ok-put_in.ensures.put c.new-2.result.entries c.new-2.ensures.empty
    (plain_start c.args.definition.now _ _ _ c.new-devices.ensures.items c.in_ok-own_devices.ensures
    c.in_ok-put_in.ensures.put c.made_of_a_report.ensures)
    c.in_ok-totals.totals (ap (λ t. t.contests) c.in_ok-totals.ensures)

pub returns-clause-content : goal.returns-clause-content
returns-clause-content c =
    ap set_of (alone c.args.definition.now _ _ _ c.new-devices.ensures.items c.in_ok-own_devices.ensures
    c.in_ok-put_in.ensures.put c.new-2.result.entries c.new-2.ensures.empty)
    ∙ start_is c.args.definition.now _ _ _ c.new-devices.ensures.items c.in_ok-own_devices.ensures
    c.in_ok-put_in.ensures.put
