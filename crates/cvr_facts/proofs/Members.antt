-- Members of lists that are made of others.
use Rattle.std.proofs.Common.{◌≡◌, zero, suc, ◌<◌, List, [], ◌∷◌, length, map, Contains, inl, inr}
use Rattle.std.proofs.Common.{refl, sym, ap, ◌∙◌, subst, arith}
use Rattle.std.specs.Prelude.{◌⊎◌, true, Bool}
use Rattle.std.specs.List.{flat_map, list_any}
use Rattle.std.specs.Cmp.{IsTotalOrder, both_ways}
use Rattle.std.specs.declared.cmp.Ordering.{Ordering}
use Rattle.std.specs.FinMap.{IsAntisymmetric}
use Rattle.std.specs.FinSet.{contains, contains-from_list, from_list, same_set}
use Rattle.std.proofs.lemmas.Cmp.{eq_by_cmp_equiv}
use Rattle.std.proofs.lemmas.List.Elements.{Contains-append_left, Contains-append_right}
use Rattle.std.proofs.lemmas.List.Elements.{Contains-append_cases}
use Rattle.std.proofs.lemmas.Map.Views.{list_any-from_Contains, Contains-from_any, tells_apart}
use Rattle.std.proofs.lemmas.List.Folds.{Any-from_list_any, list_any_at}

-- ---- one list

pub none_listed : {X : Type 0} (x : X) → Contains [] x → ⊥
none_listed x a = omega (arith, a.1)

pub at_head : {X : Type 0} (x : X) (xs : List X) → Contains (x ∷ xs) x
at_head x xs = (0, omega arith, refl)

pub at_tail : {X : Type 0} (x y : X) (xs : List X) → Contains xs y → Contains (x ∷ xs) y
at_tail x y xs a = (suc a.0, omega (arith, a.1), a.2)

pub head_or_tail : {X : Type 0} (x y : X) (xs : List X) → Contains (x ∷ xs) y
    → (x ≡ y) ⊎ Contains xs y
head_or_tail x y xs (zero, within, is) = inl is
head_or_tail x y xs (suc k, within, is) = inr (k, omega (arith, within), is)

-- a list with an item has a member
pub only_one : {X : Type 0} (x y : X) → Contains (x ∷ []) y → x ≡ y
only_one x y at = elim (head_or_tail x y [] at)
    [ inl is ↦ is | inr more ↦ absurd (none_listed y more) ]

pub one_that_passes : {X : Type 0} (test : X → Bool) (xs : List X) → list_any test xs ≡ true
    → (x : X) × Contains xs x × (test x ≡ true)
one_that_passes test xs h =
    let one = Any-from_list_any test xs h in (one.1, (one.0, one.2, one.3), one.4)

pub passes_by : {X : Type 0} (test : X → Bool) (xs : List X) (x : X) → Contains xs x → test x ≡ true
    → list_any test xs ≡ true
passes_by test xs x at h = list_any_at test xs at.0 x at.1 (ap test at.2 ∙ h)

pub one_listed : {X : Type 0} (xs : List X) → 0 < length xs → (x : X) × Contains xs x
one_listed [] some = absurd (omega (arith, some))
one_listed (x ∷ xs) some = (x, at_head x xs)

-- ---- lists of images

pub in_map : {X Y : Type 0} (f : X → Y) (x : X) (xs : List X) → Contains xs x
    → Contains (map f xs) (f x)
in_map f x [] a = absurd (none_listed x a)
in_map f x (z ∷ xs) a =
    elim (head_or_tail z x xs a) [
      | inl is ↦ subst (λ y. Contains (f z ∷ map f xs) y) (ap f is) (at_head (f z) (map f xs))
      | inr more ↦ at_tail (f z) (f x) (map f xs) (in_map f x xs more)
    ]

pub from_map : {X Y : Type 0} (f : X → Y) (y : Y) (xs : List X) → Contains (map f xs) y
    → (x : X) × Contains xs x × (f x ≡ y)
from_map f y [] a = absurd (none_listed y a)
from_map f y (x ∷ xs) a =
    elim (head_or_tail (f x) y (map f xs) a) [
      | inl is ↦ (x, at_head x xs, is)
      | inr more ↦ let r = from_map f y xs more in (r.0, at_tail x r.0 xs r.1, r.2)
    ]

pub in_flat : {X Y : Type 0} (f : X → List Y) (x : X) (y : Y) (xs : List X) → Contains xs x
    → Contains (f x) y → Contains (flat_map f xs) y
in_flat f x y [] a b = absurd (none_listed x a)
in_flat f x y (z ∷ xs) a b =
    elim (head_or_tail z x xs a) [
      | inl is ↦ Contains-append_left (f z) (flat_map f xs) y
          (subst (λ w. Contains (f w) y) (sym is) b)
      | inr more ↦ Contains-append_right (f z) (flat_map f xs) y (in_flat f x y xs more b)
    ]

pub from_flat : {X Y : Type 0} (f : X → List Y) (y : Y) (xs : List X) → Contains (flat_map f xs) y
    → (x : X) × Contains xs x × Contains (f x) y
from_flat f y [] a = absurd (none_listed y a)
from_flat f y (x ∷ xs) a =
    elim (Contains-append_cases (f x) (flat_map f xs) y a) [
      | inl here ↦ (x, at_head x xs, here)
      | inr more ↦ let r = from_flat f y xs more in (r.0, at_tail x r.0 xs r.1, r.2)
    ]

-- ---- sets of lists

module _ {K : Type 0} {R : K → K → Ordering} (total : IsTotalOrder R)
    (exact : IsAntisymmetric R) where
  pub in_set : (ks : List K) (k : K) → Contains ks k → contains (from_list {R = R} ks) k ≡ true
  in_set ks k a =
      contains-from_list total ks k ∙ list_any-from_Contains (eq_by_cmp_equiv total) k ks a

  pub from_set : (ks : List K) (k : K) → contains (from_list {R = R} ks) k ≡ true → Contains ks k
  from_set ks k h =
      Contains-from_any (tells_apart exact) k ks (sym (contains-from_list total ks k) ∙ h)

  -- lists with the same members make the same set
  pub same_from_list : (xs ys : List K) → ((k : K) → Contains xs k → Contains ys k)
      → ((k : K) → Contains ys k → Contains xs k)
      → from_list {R = R} xs ≡ from_list ys
  same_from_list xs ys there back =
      same_set total exact (from_list xs) (from_list ys)
      (λ k. both_ways (contains (from_list {R = R} xs) k) (contains (from_list {R = R} ys) k)
      (λ h. in_set ys k (there k (from_set xs k h)))
      (λ h. in_set xs k (back k (from_set ys k h))))
