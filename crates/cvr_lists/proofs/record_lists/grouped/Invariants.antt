use Rattle.std.proofs.Common.{◌≡◌, take, map, Contains}
use Rattle.cvr_office.specs.declared.record_facts.IdFacts.{IdFacts}
use Rattle.cvr_office.specs.Runs.{snapshots}
use Rattle.cvr_lists.specs.Groups.{with_id, IsFalling}
use Rattle.cvr_lists.proofs.record_lists.grouped.Given as goal

abbrev pub invariant-loop-id : goal.invariant-loop-id
invariant-loop-id l = record {
  ids_are : map (λ i. i.id.now) l.groups.items ≡ map (λ i. i.now) (take l.id-index l.id-items);
  each : (i : IdFacts) → Contains l.groups.items i
      → IsFalling (snapshots (with_id i.id.now l.run)) (map (λ s. s.now) i.snapshots.items);
}
