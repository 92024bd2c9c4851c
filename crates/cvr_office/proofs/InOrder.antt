-- Lists put in order: what rises and has the members is that list.
use Rattle.std.proofs.Common.{◌≡◌, Bool, false, List, [], ◌∷◌, map, Contains, Ordering, refl, sym}
use Rattle.std.proofs.Common.{ap, ◌∙◌, subst}
use Rattle.std.specs.List.{AllByRecursion, IsDistinct, dedup}
use Rattle.std.specs.List.Sorted.{IsStrictlySortedBy, IsSorted}
use Rattle.std.specs.Ordering.{eq_by_cmp}
use Rattle.std.specs.Cmp.{IsTotalOrder, both_ways}
use Rattle.std.specs.FinMap.{IsAntisymmetric}
use Rattle.std.proofs.lemmas.List.Kept.{IsStrictlySortedBy-dedup}
use Rattle.std.proofs.lemmas.Map.Made.{is_member-Decides}
use Rattle.cvr_facts.specs.Ordered.{keys_in_order}
use Rattle.cvr_facts.proofs.Lemmas.{tie_decides, list_any-keys_in_order, keys_in_order-same}

module _ {K : Type 0} {R : K → K → Ordering} (t : IsTotalOrder R) (e : IsAntisymmetric R) where
  pub from_ordered : (ks : List K) (q : K) → Contains (keys_in_order R ks) q → Contains ks q
  from_ordered ks q at = (is_member-Decides (tie_decides t e) ks q).0
      (sym (list_any-keys_in_order t ks q)
      ∙ (is_member-Decides (tie_decides t e) (keys_in_order R ks) q).1 at)

  pub in_ordered : (ks : List K) (q : K) → Contains ks q → Contains (keys_in_order R ks) q
  in_ordered ks q at = (is_member-Decides (tie_decides t e) (keys_in_order R ks) q).0
      (list_any-keys_in_order t ks q ∙ (is_member-Decides (tie_decides t e) ks q).1 at)

  pub keys_in_order-members : (ks xs : List K) → IsStrictlySortedBy R xs
      → ((q : K) → Contains xs q → Contains ks q) → ((q : K) → Contains ks q → Contains xs q)
      → keys_in_order R ks ≡ xs
  keys_in_order-members ks xs rises there back =
      keys_in_order-same t e ks xs rises (λ q. both_ways _ _
      (λ a. (is_member-Decides (tie_decides t e) ks q).1
      (there q ((is_member-Decides (tie_decides t e) xs q).0 a)))
      (λ a. (is_member-Decides (tie_decides t e) xs q).1
      (back q ((is_member-Decides (tie_decides t e) ks q).0 a))))

-- where each differs from those after it, none goes
module _ {K : Type 0} (same : K → K → Bool) where
  dedup_from-distinct : (x : K) (xs : List K) → AllByRecursion (λ y. same y x ≡ false) xs
      → IsDistinct (λ x y. same y x) xs → dedup same (x ∷ xs) ≡ x ∷ xs
  unfolding IsDistinct
  dedup_from-distinct x [] apart rest = refl
  dedup_from-distinct x (y ∷ xs) apart rest =
      rw apart.0 (ap (λ ys. x ∷ ys) (dedup_from-distinct y xs rest.0 rest.1))

  pub dedup-distinct : (xs : List K) → IsDistinct (λ x y. same y x) xs → dedup same xs ≡ xs
  unfolding IsDistinct
  dedup-distinct [] apart = refl
  dedup-distinct (x ∷ xs) apart = dedup_from-distinct x xs apart.0 apart.1

-- so what is sorted and apart rises
pub rises-distinct : {K : Type 0} {R : K → K → Ordering} → IsTotalOrder R → (xs : List K)
    → IsSorted R xs → IsDistinct (λ x y. eq_by_cmp R y x) xs → IsStrictlySortedBy R xs
rises-distinct {R = R} t xs sorted apart = subst (IsStrictlySortedBy R)
    (dedup-distinct (eq_by_cmp R) xs apart) (IsStrictlySortedBy-dedup t (λ _ _. refl) xs sorted)

pub map-map : {X Y Z : Type 0} (f : X → Y) (g : Y → Z) (xs : List X)
    → map (λ x. g (f x)) xs ≡ map g (map f xs)
map-map f g [] = refl
map-map f g (x ∷ xs) = ap (λ ys. g (f x) ∷ ys) (map-map f g xs)
