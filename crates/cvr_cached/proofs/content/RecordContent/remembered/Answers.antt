use Rattle.cvr_cached.proofs.ShownFacts.{has_chosen}
use Rattle.cvr_cached.proofs.content.RecordContent.remembered.Goals as goal

pub returns-clause-chosen : goal.returns-clause-chosen
returns-clause-chosen c = rw (
  c.in_ok-push_at-2.ensures,
  c.in_ok-push_at.ensures,
  c.new-found.ensures.items,
  c.deref.ensures.value,
  c.deref-2.ensures.value,
  ← c.self.view_is,
)
    (has_chosen c.self.inside.facts.items c.self.inside.header c.self.inside.current
    c.self.invariant.head_is c.self.invariant.now_is)
