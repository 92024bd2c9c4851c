use Rattle.std.proofs.Common.{◌∙◌}
use Rattle.cvr_cached.proofs.Naming.{none_named_at}
use Rattle.cvr_cached.proofs.names.open_every_second.Goals as goal

pub returns-in_err-open_name-clause-others : goal.returns-in_err-open_name-clause-others
returns-in_err-open_name-clause-others c = λ q none.
    c.open_name.ensures.others q (none_named_at c.args.contents.now c.loop-place.place
    c.index-contents-place.result q c.loop-place-test.true c.index-contents-place.is none)
    ∙ c.loop-place.invariant.others q none

pub loop-place-preserved : goal.loop-place-preserved
loop-place-preserved c = record {
  facts = λ q. c.open_name.ensures.facts q ∙ c.loop-place.invariant.facts q;
  others = λ q none. c.open_name.ensures.others q (none_named_at c.args.contents.now
      c.loop-place.place c.index-contents-place.result q c.loop-place-test.true
      c.index-contents-place.is none)
      ∙ c.loop-place.invariant.others q none;
  sums = λ w zero. c.open_name.ensures.sums w zero ∙ c.loop-place.invariant.sums w zero;
}
