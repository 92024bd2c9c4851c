-- One more key beside others, of which the highest is known.
use Rattle.std.proofs.Common.{◌≡◌, true, false, List, [], ◌∷◌, ◌++◌, Contains, Option, Some, None}
use Rattle.std.proofs.Common.{Ordering, Less, Equal, Greater, inl, inr, refl, sym, ap, ◌∙◌, subst}
use Rattle.std.proofs.Common.{true≢false, arith}
use Rattle.std.specs.List.{AllByRecursion}
use Rattle.std.specs.List.Sorted.{IsStrictlySortedBy}
use Rattle.std.specs.Option.{option_cmp}
use Rattle.std.specs.Ordering.{is_gt, ordering_reverse}
use Rattle.std.specs.Cmp.{IsTotalOrder, tied_itself, upto}
use Rattle.std.specs.FinMap.{IsAntisymmetric}
use Rattle.std.proofs.lemmas.List.Elements.{Contains-append_left, Contains-push}
use Rattle.std.proofs.lemmas.List.Elements.{Contains-push_cases}
use Rattle.std.proofs.lemmas.Option.{none-some, same_Some}
use Rattle.cvr_facts.specs.Ordered.{keys_in_order}
use Rattle.cvr_facts.proofs.Lemmas.{ordered_rises, none_listed, at_head, at_tail}
use Rattle.cvr_office.proofs.Lemmas.{in_ordered, from_ordered, keys_in_order-members}

-- the highest of some keys, or none where there are none
pub record IsHighest {K : Type 0} (R : K → K → Ordering) (ks : List K)
    (last : Option K) : Type 0 where
  pub listed : (k : K) → last ≡ Some k → Contains ks k
  pub top : (k : K) → Contains ks k → is_gt (option_cmp R (Some k) last) ≡ false

-- a key that is above each goes to the end of a rising list
below_pushed : {K : Type 0} (R : K → K → Ordering) (x k : K) (ks : List K)
    → AllByRecursion (λ y. R x y ≡ Less) ks → R x k ≡ Less
    → AllByRecursion (λ y. R x y ≡ Less) (ks ++ k ∷ [])
below_pushed R x k [] h less = (less, tt)
below_pushed R x k (y ∷ ks) h less = (h.0, below_pushed R x k ks h.1 less)

rises_pushed : {K : Type 0} (R : K → K → Ordering) (ks : List K) (k : K) → IsStrictlySortedBy R ks
    → ((y : K) → Contains ks y → R y k ≡ Less) → IsStrictlySortedBy R (ks ++ k ∷ [])
unfolding IsStrictlySortedBy
rises_pushed R [] k h above = (tt, tt)
rises_pushed R (x ∷ ks) k h above = (
  below_pushed R x k ks h.0 (above x (at_head x ks)),
  rises_pushed R ks k h.1 (λ y at. above y (at_tail x y ks at)),
)

less_back : (r s : Ordering) → r ≡ ordering_reverse s → is_gt s ≡ true → r ≡ Less
less_back r Less e h = absurd (true≢false (sym h))
less_back r Equal e h = absurd (true≢false (sym h))
less_back r Greater e h = e

pub equal_both : (r s : Ordering) → r ≡ ordering_reverse s → is_gt r ≡ false → is_gt s ≡ false
    → r ≡ Equal
equal_both r s e h k = grind arith

pub none_highest : {K : Type 0} (R : K → K → Ordering) → IsHighest R [] None
none_highest R =
    record { listed = λ k is. absurd (none-some k is); top = λ k at. absurd (none_listed k at) }

pub keys_in_order-nil : {K : Type 0} {R : K → K → Ordering} → IsTotalOrder R → IsAntisymmetric R
    → keys_in_order R [] ≡ []
unfolding IsStrictlySortedBy
keys_in_order-nil t e = keys_in_order-members t e [] [] tt (λ k at. at) (λ k at. at)

module _ {K : Type 0} {R : K → K → Ordering} (t : IsTotalOrder R) (e : IsAntisymmetric R)
    (ks : List K) where
  -- ---- a key above the highest is new

  above_each : (last : Option K) (k : K) → IsHighest R ks last
      → is_gt (option_cmp R (Some k) last) ≡ true → (y : K) → Contains ks y → R y k ≡ Less
  above_each None k h new y at = absurd (true≢false (h.top y at))
  above_each (Some l) k h new y at =
      elim (is_gt (R k y)) as (λ b. is_gt (R k y) ≡ b → R y k ≡ Less) [
        | true ↦ λ above. less_back (R y k) (R k y) (t.antisymm y k) above
        | false ↦ λ within. absurd (true≢false (sym new ∙ upto t k y l within (h.top y at)))
      ] refl

  pub keys_in_order-pushed : (last : Option K) (k : K) → IsHighest R ks last
      → is_gt (option_cmp R (Some k) last) ≡ true
      → keys_in_order R (ks ++ k ∷ []) ≡ keys_in_order R ks ++ k ∷ []
  keys_in_order-pushed last k h new =
      keys_in_order-members t e (ks ++ k ∷ []) (keys_in_order R ks ++ k ∷ [])
      (rises_pushed R (keys_in_order R ks) k (ordered_rises R ks)
      (λ y at. above_each last k h new y (from_ordered t e ks y at)))
      (λ y at. elim (Contains-push_cases (keys_in_order R ks) k y at) [
        | inl was ↦ Contains-append_left ks (k ∷ []) y (from_ordered t e ks y was)
        | inr is ↦ subst (Contains (ks ++ k ∷ [])) is (Contains-push ks k)
      ])
      (λ y at. elim (Contains-push_cases ks k y at) [
        | inl was ↦ Contains-append_left (keys_in_order R ks) (k ∷ []) y (in_ordered t e ks y was)
        | inr is ↦ subst (Contains (keys_in_order R ks ++ k ∷ [])) is
            (Contains-push (keys_in_order R ks) k)
      ])

  pub highest_pushed : (last : Option K) (k : K) → IsHighest R ks last
      → is_gt (option_cmp R (Some k) last) ≡ true → IsHighest R (ks ++ k ∷ []) (Some k)
  highest_pushed last k h new = record {
    listed = λ y is. subst (Contains (ks ++ k ∷ [])) (same_Some k y is) (Contains-push ks k);
    top = λ y at. elim (Contains-push_cases ks k y at) [
      | inl was ↦ ap is_gt (above_each last k h new y was)
      | inr is ↦ subst (λ z. is_gt (R z k) ≡ false) is (ap is_gt (tied_itself t k))
    ];
  }

  -- ---- a key that is not above the highest, but not below any, is that one

  is_held : (last : Option K) (k : K) → IsHighest R ks last
      → ((y : K) → Contains ks y → is_gt (R y k) ≡ false)
      → is_gt (option_cmp R (Some k) last) ≡ false → Contains ks k
  is_held None k h low old = absurd (true≢false old)
  is_held (Some l) k h low old = subst (Contains ks)
      (sym (e k l (equal_both (R k l) (R l k) (t.antisymm k l) old (low l (h.listed l refl)))))
      (h.listed l refl)

  pub keys_in_order-held : (last : Option K) (k : K) → IsHighest R ks last
      → ((y : K) → Contains ks y → is_gt (R y k) ≡ false)
      → is_gt (option_cmp R (Some k) last) ≡ false
      → keys_in_order R (ks ++ k ∷ []) ≡ keys_in_order R ks
  keys_in_order-held last k h low old =
      let held = is_held last k h low old in
      keys_in_order-members t e (ks ++ k ∷ []) (keys_in_order R ks) (ordered_rises R ks)
      (λ y at. Contains-append_left ks (k ∷ []) y (from_ordered t e ks y at))
      (λ y at. elim (Contains-push_cases ks k y at) [
        | inl was ↦ in_ordered t e ks y was
        | inr is ↦ in_ordered t e ks y (subst (Contains ks) is held)
      ])

  pub highest_held : (last : Option K) (k : K) → IsHighest R ks last
      → is_gt (option_cmp R (Some k) last) ≡ false → IsHighest R (ks ++ k ∷ []) last
  highest_held last k h old = record {
    listed = λ y is. Contains-append_left ks (k ∷ []) y (h.listed y is);
    top = λ y at. elim (Contains-push_cases ks k y at) [
      | inl was ↦ h.top y was
      | inr is ↦ subst (λ z. is_gt (option_cmp R (Some z) last) ≡ false) is old
    ];
  }
