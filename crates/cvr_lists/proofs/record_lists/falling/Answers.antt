use Rattle.std.proofs.Common.{Bor, map, rules, ap, ◌∙◌, subst}
use Rattle.std.specs.List.Sorted.{IsPermutation}
use Rattle.std.specs.Ordering.{is_lt}
use Rattle.std.proofs.lemmas.List.Sorted.{IsPermutation-map, ranks_by, answers_always}
use Rattle.cvr_fact_types.specs.declared.snapshot.SnapshotFact.{SnapshotFact}
use Rattle.cvr_facts.specs.Choosing.{fact_choice}
use Rattle.cvr_facts.proofs.Laws.{fact_total}
use Rattle.cvr_office.proofs.Lemmas.{map-reverse, sorted-map}
use Rattle.cvr_lists.proofs.record_lists.falling.Goals as goal

pub returns : goal.returns
returns c =
    let sorted = c.sort_unstable_by.new.self.items in
    record {
      rising = map (λ s. s.now) sorted;
      same = subst (λ xs. IsPermutation xs (map (λ s. s.now) sorted)) c.in_ok-snapshots.ensures
          (IsPermutation-map (λ s. s.now) _ _ c.sort_unstable_by.ensures.permutation);
      sorted =
          sorted-map (λ s. s.now) (λ x y. is_lt (fact_choice x y)) sorted
          (c.sort_unstable_by.ensures.sorted _ (ranks_by fact_total (λ s. s.now))
          (answers_always _ _ _ (λ f a r g h. search rules)));
      is = ap (map (λ s. s.now)) c.reverse.ensures.items
          ∙ map-reverse (λ (s : Bor SnapshotFact). s.now) sorted;
    }
