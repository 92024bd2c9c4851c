-- By how much a set grows.
use Rattle.std.proofs.Common.{◌≡◌, ◌+◌, false, cond, ◌||◌, List, [], ◌∷◌, length, sym, ap, ◌∙◌}
use Rattle.std.proofs.Common.{arith}
use Rattle.std.specs.declared.cmp.Ordering.{Ordering}
use Rattle.std.specs.Ordering.{eq_by_cmp}
use Rattle.std.specs.Cmp.{IsTotalOrder}
use Rattle.std.specs.List.{list_any}
use Rattle.std.specs.FinSet.{FinSet, union, contains, insert, from_list, len, len-insert}
use Rattle.std.specs.FinSet.{contains-insert, contains-union, contains-from_list, same_set}
use Rattle.std.specs.FinMap.{IsAntisymmetric}
use Rattle.std.proofs.Math.Bool.{or-false}
use Rattle.cvr_facts.proofs.Bools.{or_swap}

module _ {K : Type 0} {R : K → K → Ordering} where
  -- each of the list once, and none of them in the set
  abbrev pub AreNew : FinSet R → List K → Type 0
  AreNew s [] = Unit {0}
  AreNew s (x ∷ xs) = (contains s x ≡ false) × (list_any (eq_by_cmp R x) xs ≡ false) × AreNew s xs

  abbrev with_all : FinSet R → List K → FinSet R
  with_all s [] = s
  with_all s (x ∷ xs) = insert (with_all s xs) x

module _ {K : Type 0} {R : K → K → Ordering} (o : IsTotalOrder R) where
  contains-with_all : (s : FinSet R) (xs : List K) (q : K)
      → contains (with_all s xs) q ≡ (contains s q || list_any (eq_by_cmp R q) xs)
  contains-with_all s [] q = sym (or-false (contains s q))
  contains-with_all s (x ∷ xs) q =
      contains-insert o (with_all s xs) x q
      ∙ (ap (λ b. eq_by_cmp R q x || b) (contains-with_all s xs q)
      ∙ or_swap (eq_by_cmp R q x) (contains s q) (list_any (eq_by_cmp R q) xs))

  len-with_all : (s : FinSet R) (xs : List K) → AreNew s xs
      → len (with_all s xs) ≡ len s + length xs
  len-with_all s [] h = omega arith
  len-with_all s (x ∷ xs) h =
      let absent : contains (with_all s xs) x ≡ false =
      contains-with_all s xs x ∙ (ap (λ b. b || list_any (eq_by_cmp R x) xs) h.0 ∙ h.1) in
      omega (
        arith,
        len-insert o (with_all s xs) x,
        ap
            (λ b. cond b (len (with_all s xs)) (len (with_all s xs) + 1)) absent,
        len-with_all s xs
            h.2,
      )

  -- a set grows by the number of new members
  pub len-union : IsAntisymmetric R → (s : FinSet R) (xs : List K) → AreNew s xs
      → len (union s (from_list xs)) ≡ len s + length xs
  len-union e s xs h =
      ap len (same_set o e (union s (from_list xs)) (with_all s xs) (λ q.
      contains-union o s (from_list xs) q
      ∙ (ap (λ b. contains s q || b) (contains-from_list o xs q)
      ∙ sym (contains-with_all s xs q))))
      ∙ len-with_all s xs h
