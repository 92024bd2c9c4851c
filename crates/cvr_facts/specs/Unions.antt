-- Laws of the union of finite sets, which `Join` asks of each set. (This project's own.)
use Rattle.std.specs.Prelude.{◌≡◌, ◌||◌}
use Rattle.std.proofs.Common.{sym, ap, ◌∙◌}
use Rattle.std.proofs.Math.Bool.{or_comm, or_assoc, or_self, or-false}
use Rattle.std.specs.declared.cmp.Ordering.{Ordering}
use Rattle.std.specs.Cmp.{IsTotalOrder}
use Rattle.std.specs.Cmp.Lexicographic.{nat_list_cmp_total}
use Rattle.std.specs.FinSet.{FinSet, union, empty, contains, same_set, contains-union}
use Rattle.std.specs.FinSet.{contains-empty}
use Rattle.std.specs.FinMap.{IsAntisymmetric, nat_cmp-IsAntisymmetric, slice_cmp-IsAntisymmetric}
use Rattle.cvr_fact_types.specs.Facts.{text_cmp}
use Rattle.cvr_facts.specs.Sets.{JoinLaws}

module _ {K : Type 0} {R : K → K → Ordering} (o : IsTotalOrder R) (e : IsAntisymmetric R) where
  pub union_comm : (s t : FinSet R) → union s t ≡ union t s
  union_comm s t = same_set o e _ _ (λ q.
      contains-union o s t q ∙ (or_comm (contains s q) (contains t q) ∙ sym
      (contains-union o t s q)))

  pub union_assoc : (s t u : FinSet R) → union (union s t) u ≡ union s (union t u)
  union_assoc s t u = same_set o e _ _ (λ q.
      contains-union o (union s t) u q ∙ (ap (λ b. b || contains u q) (contains-union o s t q)
      ∙ (or_assoc (contains s q) (contains t q) (contains u q)
      ∙ (ap (λ b. contains s q || b) (sym (contains-union o t u q)) ∙ sym
      (contains-union o s (union t u) q)))))

  pub union_same : (s : FinSet R) → union s s ≡ s
  union_same s = same_set o e _ _ (λ q. contains-union o s s q ∙ or_self (contains s q))

  pub union_empty : (s : FinSet R) → union s empty ≡ s
  union_empty s = same_set o e _ _ (λ q.
      contains-union o s empty q ∙ (ap (λ b. contains s q || b) (contains-empty R q) ∙ or-false
      (contains s q)))

  pub empty_union : (s : FinSet R) → union empty s ≡ s
  empty_union s = union_comm empty s ∙ union_empty s

  pub union_laws : JoinLaws (union {R = R}) empty
  union_laws = record {
    commutes = union_comm;
    associates = union_assoc;
    repeats = union_same;
    unit_left = empty_union;
  }

-- ---- sets of texts

pub text_total : IsTotalOrder text_cmp
text_total = nat_list_cmp_total

pub text_exact : IsAntisymmetric text_cmp
text_exact = slice_cmp-IsAntisymmetric nat_cmp-IsAntisymmetric

-- the union of sets of texts keeps the laws of joining, with the empty set as unit
pub text_union_laws : JoinLaws (union {R = text_cmp}) empty
text_union_laws = union_laws text_total text_exact
