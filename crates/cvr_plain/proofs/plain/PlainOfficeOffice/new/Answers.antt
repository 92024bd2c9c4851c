use Rattle.cvr_lists.proofs.Laws.{start_is, plain_start}
use Rattle.cvr_lists.proofs.Lemmas.{none_rise}
use Rattle.cvr_plain.proofs.plain.PlainOfficeOffice.new.Goals as goal

pub put_in-requires : goal.put_in-requires
put_in-requires c = none_rise c.new-facts.result.items c.new-facts.ensures.items

pub invariant_of-result : goal.invariant_of-result
invariant_of-result c = plain_start c.args.definition _ _ _ c.new-facts.ensures.items
    c.in_ok-own_devices.ensures c.in_ok-put_in.ensures.put c.made_of_a_report.ensures

pub returns-clause-content : goal.returns-clause-content
returns-clause-content c = start_is c.args.definition _ _ _ c.new-facts.ensures.items
    c.in_ok-own_devices.ensures c.in_ok-put_in.ensures.put
