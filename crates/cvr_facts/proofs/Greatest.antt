-- The greatest of a list is in it, and is the only one.
use Rattle.std.specs.Prelude.{◌≡◌, ◌≢◌, ◌↔◌, true, false}
use Rattle.std.specs.Prelude.{cond, List, [], ◌∷◌, Some, None}
use Rattle.std.proofs.Common.{refl, ap, subst, inl, inr, arith}
use Rattle.std.proofs.lemmas.Bool.{false≢true}
use Rattle.std.specs.Option.{option_map_or}
use Rattle.std.specs.List.{Contains}
use Rattle.std.specs.declared.cmp.Ordering.{Ordering}
use Rattle.std.specs.declared.cmp.Ordering.TheVariants.{Less, Equal, Greater}
use Rattle.std.specs.Ordering.{is_gt, ordering_reverse}
use Rattle.std.specs.Cmp.{IsTotalOrder, tied_itself, upto}
use Rattle.std.specs.FinMap.{IsAntisymmetric}
use Rattle.cdf_typed.specs.Greatest.{max_of, max_by}
use Rattle.cvr_facts.specs.Choosing.{IsGreatest}
use Rattle.cvr_facts.proofs.Members.{at_head, at_tail, head_or_tail, none_listed}

-- ---- orderings

pub gt_back : (r s : Ordering) → r ≡ ordering_reverse s → is_gt s ≡ true → is_gt r ≡ false
gt_back r Less e h = absurd (false≢true h)
gt_back r Equal e h = absurd (false≢true h)
gt_back r Greater e h = ap is_gt e

no_gt_both : (r s : Ordering) → r ≡ ordering_reverse s → is_gt r ≡ false → is_gt s ≡ false
    → s ≡ Equal
no_gt_both r s e h k = grind arith

-- ---- the greatest

module _ {K : Type 0} {R : K → K → Ordering} (t : IsTotalOrder R) where
  -- only one is the greatest
  pub one_greatest : IsAntisymmetric R → (xs : List K) (x y : K) → IsGreatest R xs x
      → IsGreatest R xs y → x ≡ y
  one_greatest e xs x y a b =
      e x y (no_gt_both (R y x) (R x y) (t.antisymm y x) (a.top y b.listed) (b.top x a.listed))

  not_past : (x y : K) → x ≡ y → is_gt (R y x) ≡ false
  not_past x y e = subst (λ z. is_gt (R z x) ≡ false) e (ap is_gt (tied_itself t x))

  no_greatest : (xs : List K) → max_by R xs ≡ None → (y : K) → Contains xs y → ⊥
  no_greatest [] h y at = none_listed y at
  no_greatest (x ∷ xs) h y at = Prim.cc h

  alone : (x : K) (xs : List K) → max_by R xs ≡ None → IsGreatest R (x ∷ xs) x
  alone x xs w = record {
    listed = at_head x xs;
    top = λ y h. elim (head_or_tail x y xs h)
        [ inl e ↦ not_past x y e | inr rest ↦ absurd (no_greatest xs w y rest) ];
  }

  passed : (x y : K) (xs : List K) → IsGreatest R xs y → is_gt (R x y) ≡ true
      → IsGreatest R (x ∷ xs) x
  passed x y xs was gt = record {
    listed = at_head x xs;
    top = λ z h. elim (head_or_tail x z xs h) [
      | inl e ↦ not_past x z e
      | inr rest ↦ upto t z y x (was.top z rest)
          (gt_back (R y x) (R x y) (t.antisymm y x) gt)
    ];
  }

  kept : (x y : K) (xs : List K) → IsGreatest R xs y → is_gt (R x y) ≡ false
      → IsGreatest R (x ∷ xs) y
  kept x y xs was below = record {
    listed = at_tail x y xs was.listed;
    top = λ z h. elim (head_or_tail x z xs h)
        [ inl e ↦ subst (λ w. is_gt (R w y) ≡ false) e below | inr rest ↦ was.top z rest ];
  }

  chosen : (x y : K) (xs : List K) → IsGreatest R xs y → IsGreatest R (x ∷ xs) (max_of R x y)
  chosen x y xs was = elim (is_gt (R x y)) as
      (λ b. is_gt (R x y) ≡ b → IsGreatest R (x ∷ xs) (cond b x y))
      [ true ↦ passed x y xs was | false ↦ kept x y xs was ] refl

  -- the greatest is in the list, and nothing in it passes it
  pub greatest_is : (xs : List K) (x : K) → max_by R xs ≡ Some x → IsGreatest R xs x
  greatest_is [] z h = Prim.cc h
  greatest_is (x ∷ xs) z h =
      elim (max_by R xs) as (λ w. max_by R xs ≡ w → Some (option_map_or (max_of R x) w x) ≡ Some z
      → IsGreatest R (x ∷ xs) z) [
        | None ↦ λ w h. let e : x ≡ z = Prim.cc h in subst (IsGreatest R (x ∷ xs)) e (alone x xs w)
        | Some y ↦ λ w h. let e : max_of R x y ≡ z =
            Prim.cc h in subst (IsGreatest R (x ∷ xs)) e (chosen x y xs (greatest_is xs y w))
      ] refl h

  -- whatever nothing in the list passes is the greatest
  pub is_greatest : IsAntisymmetric R → (xs : List K) (x : K) → IsGreatest R xs x
      → max_by R xs ≡ Some x
  is_greatest e xs x a =
      elim (max_by R xs) as (λ w. max_by R xs ≡ w → w ≡ Some x) [
        | None ↦ λ w. absurd (no_greatest xs w x a.listed)
        | Some y ↦ λ w. ap Some (one_greatest e xs y x (greatest_is xs y w) a)
      ] refl

  pub greatest_iff : IsAntisymmetric R → (xs : List K) (x : K)
      → (max_by R xs ≡ Some x) ↔ IsGreatest R xs x
  greatest_iff e xs x = (greatest_is xs x, is_greatest e xs x)

  -- a list that has anything has a greatest
  pub has_greatest : (xs : List K) → xs ≢ [] → (x : K) × IsGreatest R xs x
  has_greatest [] h = absurd (h refl)
  has_greatest (x ∷ xs) h = (
    option_map_or (max_of R x) (max_by R xs) x,
    greatest_is (x ∷ xs)
        (option_map_or (max_of R x) (max_by R xs) x) refl,
  )
