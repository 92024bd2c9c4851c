-- Two lists in order are of the same facts exactly where the sets are the same.
use Rattle.std.proofs.Common.{◌≡◌, List, [], ◌∷◌, map, Contains, Bool, true, ◌&&◌, Less, Ordering}
use Rattle.std.proofs.Common.{refl, sym, ap, subst}
use Rattle.std.specs.List.{AllByRecursion}
use Rattle.std.specs.List.Sorted.{IsStrictlySortedBy}
use Rattle.std.specs.Ordering.{on}
use Rattle.std.specs.Cmp.Lexicographic.{pointwise}
use Rattle.std.specs.FinSet.{contains}
use Rattle.cvr_fact_types.specs.Facts.{Fact, fact_total, fact_exact}
use Rattle.cvr_facts.proofs.Lemmas.{in_set, from_set, same_lists_of_members}
use Rattle.cvr_office.specs.declared.any_fact.AnyFact.{AnyFact}
use Rattle.cvr_office.specs.Place.{fact_of, place_cmp, place_total, any_cmp}
use Rattle.cvr_office.specs.Plain.{set_of}

module _ {X K : Type 0} (key : X → K) where
  pub pointwise-on : (E : K → K → Bool) (xs ys : List X)
      → pointwise (on key E) xs ys ≡ pointwise E (map key xs) (map key ys)
  pointwise-on E [] [] = refl
  pointwise-on E [] (y ∷ ys) = refl
  pointwise-on E (x ∷ xs) [] = refl
  pointwise-on E (x ∷ xs) (y ∷ ys) = ap (λ b. E (key x) (key y) && b) (pointwise-on E xs ys)

  below_map : (P : K → K → Ordering) (x : X) (xs : List X)
      → AllByRecursion (λ y. on key P x y ≡ Less) xs
      → AllByRecursion (λ k. P (key x) k ≡ Less) (map key xs)
  below_map P x [] h = tt
  below_map P x (y ∷ ys) h = (h.0, below_map P x ys h.1)

  pub IsStrictlySortedBy-map : (P : K → K → Ordering) (xs : List X)
      → IsStrictlySortedBy (on key P) xs → IsStrictlySortedBy P (map key xs)
  unfolding IsStrictlySortedBy
  IsStrictlySortedBy-map P [] h = tt
  IsStrictlySortedBy-map P (x ∷ xs) h = (below_map P x xs h.0, IsStrictlySortedBy-map P xs h.1)

module _ (xs ys : List AnyFact) (h : IsStrictlySortedBy any_cmp xs)
    (k : IsStrictlySortedBy any_cmp ys) where
  within : (vs ws : List AnyFact) → set_of vs ≡ set_of ws → (f : Fact) → Contains (map fact_of vs) f
      → Contains (map fact_of ws) f
  within vs ws same f at =
      from_set fact_total fact_exact (map fact_of ws) f
      (subst (λ s. contains s f ≡ true) same
      (in_set fact_total fact_exact (map fact_of vs) f at))

  pub same_facts : set_of xs ≡ set_of ys → map fact_of xs ≡ map fact_of ys
  same_facts same =
      same_lists_of_members place_total (map fact_of xs) (map fact_of ys)
      (IsStrictlySortedBy-map fact_of place_cmp xs h)
      (IsStrictlySortedBy-map fact_of place_cmp ys k) (within xs ys same)
      (within ys xs (sym same))
