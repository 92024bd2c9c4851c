-- Those of `more` that aren't held are apart from the `devices` that are, and the `growth` merges
-- them in: the list then has all of theirs, and gets `longer` by as many as weren't held.
use Rattle.std.proofs.Common.{◌≡◌, ◌∙◌, sym, subst, arith}
use Rattle.std.specs.List.Sorted.{IsStrictlySortedBy}
use Rattle.std.proofs.lemmas.List.Kept.{IsStrictlySortedBy-filter}
use Rattle.cvr_office.specs.Place.{any_cmp}
use Rattle.cvr_office.specs.Plain.{IsPut}
use Rattle.cvr_cached.specs.Fresh.{is_fresh, fresh}
use Rattle.cvr_cached.specs.Merged.{merged}
use Rattle.cvr_cached.proofs.FreshFacts.{fresh_apart, put_fresh, put_listed}
use Rattle.cvr_cached.proofs.Listed.{sorted_nil}
use Rattle.cvr_cached.proofs.MergedFacts.{length-merged, merged_put}
use Rattle.cvr_cached.proofs.taking.devices_growth.Goals as goal

pub put_copies-requires : goal.put_copies-requires
put_copies-requires c =
    subst (IsStrictlySortedBy any_cmp) (sym c.new-more.ensures.items) (sorted_nil any_cmp)

pub growth_of-requires-clause-rises : goal.growth_of-requires-clause-rises
growth_of-requires-clause-rises c = rw c.fresh_of.ensures
    (IsStrictlySortedBy-filter any_cmp (is_fresh c.args.devices.now) c.put_copies.new.facts.items
    c.in_ok-put_copies.ensures.put.rises)

pub growth_of-requires-clause-apart : goal.growth_of-requires-clause-apart
growth_of-requires-clause-apart c =
    rw c.fresh_of.ensures (fresh_apart c.args.devices.now c.put_copies.new.facts.items)

pub returns-clause-put : goal.returns-clause-put
returns-clause-put c =
    let devices = c.args.devices.now in
    let more = c.put_copies.new.facts.items in
    let is : c.in_ok-growth.growth.fresh.items ≡ fresh devices more =
    c.in_ok-growth.ensures.fresh ∙ c.fresh_of.ensures in
    put_listed _ c.args.theirs.now more devices _ c.new-more.ensures.items
    c.in_ok-put_copies.ensures.put
    (put_fresh devices more _ (subst (λ xs. IsPut devices xs (merged devices
    c.in_ok-growth.growth.fresh.items)) is
    (merged_put devices c.in_ok-growth.growth.fresh.items c.requires
    c.in_ok-growth.ensures.growth.rises c.in_ok-growth.ensures.growth.apart)))

pub returns-clause-longer : goal.returns-clause-longer
returns-clause-longer c = omega (
  arith,
  length-merged c.args.devices.now c.in_ok-growth.growth.fresh.items,
  c.len-longer.ensures,
  c.in_ok-growth.growth.fresh.ok.0,
)
