use Rattle.std.proofs.Common.{◌==◌, ◌∙◌, sym, ap}
use Rattle.std.specs.List.{list_any}
use Rattle.std.specs.Ordering.{eq_by_cmp}
use Rattle.std.specs.Cmp.Lexicographic.{pointwise, nat_list_eq_equiv, texts_ties}
use Rattle.std.proofs.lemmas.List.Filters.{dedup_is}
use Rattle.std.proofs.lemmas.List.Kept.{IsStrictlySortedBy-dedup}
use Rattle.std.proofs.lemmas.List.Sorted.{list_any-IsPermutation}
use Rattle.cvr_fact_types.specs.Facts.{text_cmp}
use Rattle.cvr_facts.specs.Unions.{text_total, text_exact}
use Rattle.cvr_facts.proofs.Sorted.{from_list-same, list_any-dedup}
use Rattle.cvr_facts.proofs.bodies.put_in_order.Goals as goal

pub returns-clause-sorted : goal.returns-clause-sorted
returns-clause-sorted c = rw (dedup_is (pointwise ◌==◌) _ _ c.dedup.ensures.filtered)
    (IsStrictlySortedBy-dedup text_total texts_ties _ c.sort_unstable.ensures.sorted)

pub returns-clause-members : goal.returns-clause-members
returns-clause-members c = from_list-same text_total text_exact _ _ (λ q.
    ap (list_any (eq_by_cmp text_cmp q)) (dedup_is (pointwise ◌==◌) _ _ c.dedup.ensures.filtered)
    ∙ (list_any-dedup text_total text_exact nat_list_eq_equiv texts_ties _ q
    ∙ sym (list_any-IsPermutation (eq_by_cmp text_cmp q) _ _ c.sort_unstable.ensures.permutation)))
