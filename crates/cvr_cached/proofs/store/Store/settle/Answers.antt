-- Where the plan isn't carried out (`put`), the store is what it was; else it has taken all in:
-- devices by `growth`, records by the plan, and `count` rose by `new_facts`.
use Rattle.std.proofs.Common.{◌≡◌, length, ap, subst, sym, ◌∙◌, arith, rules}
use Rattle.std.proofs.lemmas.Map.Lookups.{btree_map_from_get}
use Rattle.cvr_office.specs.Plain.{IsPut}
use Rattle.cvr_office.proofs.Laws.{name_exact, name_total}
use Rattle.cvr_cached.specs.Held.{Stored}
use Rattle.cvr_cached.proofs.Settled.{tallied, growing, room, held_still, held_settled, taken_settled}
use Rattle.cvr_cached.proofs.store.Store.settle.Goals as goal

pub carry_out-put-requires-clause-tallied : goal.carry_out-put-requires-clause-tallied
carry_out-put-requires-clause-tallied c =
    tallied _ _ c.self.invariant _ _ c.args.plan (rw (← c.self.view_is) at c.requires.1)

pub carry_out-put-requires-clause-growing : goal.carry_out-put-requires-clause-growing
carry_out-put-requires-clause-growing c =
    growing _ _ c.self.invariant _ _ c.args.plan (rw (← c.self.view_is) at c.requires.1)

pub carry_out-put-requires-clause-room : goal.carry_out-put-requires-clause-room
carry_out-put-requires-clause-room c =
    let few = c.in_ok-count.ensures in
    room _ _ c.self.invariant _ _ c.args.plan (rw (← c.self.view_is) at c.requires.1)
    (omega (arith, few.0, c.in_ok-new_facts.ensures.1))

pub invariant_of-self : goal.invariant_of-self
invariant_of-self c =
    let entries = btree_map_from_get name_total c.carry_out-put.new.records c.self.inside.records
    c.len.ensures.ordered c.self.invariant.own.names_rise c.in_err-put.ensures.unchanged.1
    name_exact in
    let totals = c.in_err-put.ensures.unchanged.0 in
    held_still _ _ _ (λ i. record {
      devices = c.self.inside.devices.items;
      records = entries i;
      totals = totals i;
    }) c.self.invariant

pub returns-in_err-put-clause-unchanged : goal.returns-in_err-put-clause-unchanged
returns-in_err-put-clause-unchanged c =
    let entries = btree_map_from_get name_total c.carry_out-put.new.records c.self.inside.records
    c.len.ensures.ordered c.self.invariant.own.names_rise c.in_err-put.ensures.unchanged.1
    name_exact in
    let totals = c.in_err-put.ensures.unchanged.0 in
    let same : Stored = record {
      devices = c.self.inside.devices.items;
      records = c.carry_out-put.new.records.entries;
      totals = c.carry_out-put.new.totals;
    } in
    let is : same ≡ c.args.self.now = (λ i.
    record { devices = c.self.inside.devices.items; records = entries i; totals = totals i })
    ∙ c.self.view_is in
    search rules

pub invariant_of-self-2 : goal.invariant_of-self-2
invariant_of-self-2 c =
    let put = rw c.deref.ensures.value at c.in_ok-growth.ensures.put in
    let longer = rw c.deref.ensures.value at c.in_ok-growth.ensures.longer in
    let devices =
    subst (IsPut c.self.inside.devices.items c.args.devices.now) (sym c.grow_devices.ensures) put in
    let sum = c.in_ok-new_facts.ensures.1 in
    let count = c.in_ok-count.ensures in
    let done = c.in_ok-put.ensures in
    let now : Stored = record {
      devices = c.grow_devices.new.devices.items;
      records = c.carry_out-put.new.records.entries;
      totals = c.carry_out-put.new.totals;
    } in
    held_settled _ _ c.self.invariant _ _ c.args.plan (rw (← c.self.view_is) at c.requires.1) now
    c.in_ok-count.count c.in_ok-new_facts.new_facts
    devices c.len.ensures.ordered done.records done.counted done.contests
    (omega (arith, longer, sum, ap length c.grow_devices.ensures)) (sym count.1) done.agrees
    c.are_whole.ensures (omega (arith, count.0, count.1))

pub returns-clause-taken : goal.returns-clause-taken
returns-clause-taken c more of =
    let put = rw c.deref.ensures.value at c.in_ok-growth.ensures.put in
    let longer = rw c.deref.ensures.value at c.in_ok-growth.ensures.longer in
    let devices =
    subst (IsPut c.self.inside.devices.items c.args.devices.now) (sym c.grow_devices.ensures) put in
    let sum = c.in_ok-new_facts.ensures.1 in
    let count = c.in_ok-count.ensures in
    let done = c.in_ok-put.ensures in
    let now : Stored = record {
      devices = c.grow_devices.new.devices.items;
      records = c.carry_out-put.new.records.entries;
      totals = c.carry_out-put.new.totals;
    } in
    rw (← c.self.view_is)
    (taken_settled _ _ c.self.invariant more _ c.args.plan (rw (← c.self.view_is) at of) now
    c.in_ok-count.count c.in_ok-new_facts.new_facts
    devices c.len.ensures.ordered done.records done.counted done.contests
    (omega (arith, longer, sum, ap length c.grow_devices.ensures)) (sym count.1) (omega (arith, sum))
    done.moves)
