use Rattle.std.proofs.Common.{subst}
use Rattle.cvr_cached.specs.Contents.{content_at, facts_at}
use Rattle.cvr_cached.specs.Held.{Stored, facts_of}
use Rattle.cvr_cached.specs.Taking.{AreSplit}
use Rattle.cvr_cached.proofs.Taken.{rise_before, plan_seen, own_apart}
use Rattle.cvr_cached.proofs.store.Store.take_contents.Goals as goal

pub plan_of_contents-requires : goal.plan_of_contents-requires
plan_of_contents-requires c = rise_before _ _ c.self.invariant

pub settle-requires : goal.settle-requires
settle-requires c =
    let apart = subst (λ (o : Stored). AreSplit (facts_of o) c.other.inside.devices.items
    (λ k. facts_at (content_at c.other.inside.records.entries k))) c.other.view_is
    (own_apart _ _ c.other.invariant.own) in (
      facts_of c.args.other.now,
      rw c.deref.ensures.value
          (plan_seen c.self.view_is apart c.requires c.in_ok-plan.ensures),
    )

pub returns-clause-taken : goal.returns-clause-taken
returns-clause-taken c =
    let apart = subst (λ (o : Stored). AreSplit (facts_of o) c.other.inside.devices.items
    (λ k. facts_at (content_at c.other.inside.records.entries k))) c.other.view_is
    (own_apart _ _ c.other.invariant.own) in
    c.settle.ensures.taken _ (rw c.deref.ensures.value
    (plan_seen c.self.view_is apart c.requires c.in_ok-plan.ensures))
