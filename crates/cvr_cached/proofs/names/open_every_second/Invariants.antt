use Rattle.std.proofs.Common.{◌≡◌, ℕ, List, [], false}
use Rattle.std.specs.List.{sum_by}
use Rattle.std.specs.Map.{values_of}
use Rattle.std.specs.BTreeMap.{get}
use Rattle.cvr_fact_types.specs.declared.name.RecordName.{RecordName}
use Rattle.cvr_fact_types.specs.Facts.{name_cmp}
use Rattle.cvr_office.specs.declared.any_fact.AnyFact.{AnyFact}
use Rattle.cvr_cached.specs.Contents.{facts_at}
use Rattle.cvr_cached.specs.Plans.{has_content}
use Rattle.cvr_cached.proofs.names.open_every_second.Given as goal

abbrev pub invariant-loop-place : goal.invariant-loop-place
invariant-loop-place l = record {
  facts : (q : RecordName) → facts_at (get name_cmp l.records q)
      ≡ facts_at (get name_cmp l.fn.records q);
  others : (q : RecordName) → has_content l.contents q ≡ false
      → get name_cmp l.records q ≡ get name_cmp l.fn.records q;
  sums : (w : List AnyFact → ℕ) → w [] ≡ 0
      → sum_by w (values_of l.records.entries) ≡ sum_by w (values_of l.fn.records.entries);
}
