use Rattle.std.proofs.Common.{◌≡◌, rules, arith, option_map, ap, ◌∙◌}
use Rattle.std.specs.Option.{option_cmp}
use Rattle.std.specs.Ordering.{is_gt}
use Rattle.cvr_fact_types.specs.Facts.{name_cmp}
use Rattle.cvr_office.specs.Names.{record_of}
use Rattle.cvr_office.specs.Place.{fact_of}
use Rattle.cvr_lists.proofs.CountedRecords.{counted_same, counted_none, counted_new, counted_old}
use Rattle.cvr_lists.proofs.CountedRecords.{counted_all}
use Rattle.cvr_lists.proofs.records.record_count_in.Goals as goal
use Rattle.cvr_lists.proofs.records.record_count_in.Goals.{then-gt, else-gt}

pub loop-fact-init : goal.loop-fact-init
loop-fact-init c = counted_none c.args.facts.now

pub loop-fact-preserved : goal.loop-fact-preserved
loop-fact-preserved c =
    let xs = c.args.facts.now in
    let x = c.fact-item.result in
    let last = option_map (λ k. k.now) c.loop-fact.last in
    let test : is_gt (option_cmp name_cmp (record_of (fact_of x)) last) ≡ c.gt.result =
    search rules in
    elim c.if-gt.branch [
      | then-gt w ↦
          counted_same xs _ _ _ _ _ (counted_new xs _ _ last c.loop-fact.invariant x
          c.loop-fact-test.true c.fact-item.is (test ∙ w.if-gt.true))
          w.count-is (ap (option_map (λ k. k.now)) w.last-is ∙ c.record_name-name.ensures)
      | else-gt w ↦
          counted_same xs _ _ _ _ _ (counted_old xs _ _ last c.loop-fact.invariant x
          c.loop-fact-test.true c.fact-item.is c.requires (test ∙ w.if-gt.false))
          w.count-is (ap (option_map (λ k. k.now)) w.last-is)
    ]

pub returns : goal.returns
returns c = counted_all _ _ _ _ c.loop-fact.invariant (omega arith)
