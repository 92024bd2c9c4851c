use Rattle.std.proofs.Common.{◌++◌}
use Rattle.cvr_cached.proofs.Taken.{rise_before, plan_seen, told_apart}
use Rattle.cvr_cached.proofs.store.Store.take_in.Goals as goal

pub plan_of-requires-clause-rise : goal.plan_of-requires-clause-rise
plan_of-requires-clause-rise c = rise_before _ _ c.self.invariant

pub settle-requires : goal.settle-requires
settle-requires c =
    let apart =
    told_apart c.args.devices.now c.args.more.items c.requires.devices c.requires.named in (
      c.args.devices.now ++ c.args.more.items,
      plan_seen c.self.view_is apart c.requires.allowed
          c.in_ok-plan.ensures,
    )

pub returns-clause-taken : goal.returns-clause-taken
returns-clause-taken c =
    let apart =
    told_apart c.args.devices.now c.args.more.items c.requires.devices c.requires.named in
    c.settle.ensures.taken _ (plan_seen c.self.view_is apart c.requires.allowed
    c.in_ok-plan.ensures)
