use Rattle.std.specs.BTreeMap.{get}
use Rattle.cvr_fact_types.specs.Facts.{name_cmp}
use Rattle.cvr_cached.specs.Contents.{facts_at}
use Rattle.cvr_cached.specs.Plans.{IsMade}
use Rattle.cvr_cached.proofs.Theirs.{first_name, AreLeft}
use Rattle.cvr_cached.proofs.plan.plan_of_contents.Given as goal

-- what came to the names so far is planned, and the others are left
abbrev pub invariant-loop-name : goal.invariant-loop-name
invariant-loop-name l = record {
  planned : IsMade (get name_cmp l.records) (λ k. facts_at (get name_cmp l.theirs k))
      (first_name l.name-iterator) l.plan;
  left : AreLeft l.theirs.entries l.name-iterator;
}
