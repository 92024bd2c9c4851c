-- Two lists in strict order with the same members are one list.
use Rattle.std.proofs.Common.{◌≡◌, List, [], ◌∷◌, Contains, Ordering, Less, inl, inr, refl, sym, ap}
use Rattle.std.proofs.Common.{◌∙◌, true≢false}
use Rattle.std.specs.List.{list_any}
use Rattle.std.specs.List.Sorted.{IsStrictlySortedBy}
use Rattle.std.specs.Ordering.{eq_by_cmp, is_lt}
use Rattle.std.specs.Cmp.{IsTotalOrder, tied_itself}
use Rattle.std.specs.FinMap.{IsAntisymmetric}
use Rattle.std.proofs.lemmas.List.Elements.{All-contains, All-from_recursion}
use Rattle.std.proofs.lemmas.Map.Keys.{sorted_head, sorted_tail}
use Rattle.std.proofs.lemmas.Map.Made.{is_member-Decides}
use Rattle.cvr_facts.proofs.Bools.{tie_decides}
use Rattle.cvr_facts.proofs.Members.{none_listed, at_head, at_tail, head_or_tail}

module _ {K : Type 0} {R : K → K → Ordering} (t : IsTotalOrder R) where
  -- no key is below itself
  below_itself : (x : K) → R x x ≡ Less → ⊥
  below_itself x h = true≢false (sym (ap is_lt h) ∙ ap is_lt (tied_itself t x))

  below_later : (x y : K) (xs : List K) → IsStrictlySortedBy R (x ∷ xs) → Contains xs y
      → R x y ≡ Less
  below_later x y xs h at = All-contains (λ z. R x z ≡ Less) xs y
      (All-from_recursion (λ z. R x z ≡ Less) xs (sorted_head R x xs h)) at

  same_heads : (x y : K) (xs ys : List K) → IsStrictlySortedBy R (x ∷ xs)
      → IsStrictlySortedBy R (y ∷ ys) → Contains (y ∷ ys) x → Contains (x ∷ xs) y → x ≡ y
  same_heads x y xs ys h k there back =
      elim (head_or_tail y x ys there) [
        | inl is ↦ sym is
        | inr later ↦ elim (head_or_tail x y xs back) [
          | inl is ↦ is
          | inr also ↦ absurd (below_itself x
              (t.trans x y x (below_later x y xs h also) (below_later y x ys k later)))
        ]
      ]

  -- a key behind the first of one list is behind that of the other
  in_tail : (x y q : K) (xs ys : List K) → IsStrictlySortedBy R (x ∷ xs) → x ≡ y → Contains xs q
      → Contains (y ∷ ys) q → Contains ys q
  in_tail x y q xs ys h is at there =
      elim (head_or_tail y q ys there) [
        | inl first ↦ absurd (below_itself x (ap (R x) (is ∙ first) ∙ below_later x q xs h at))
        | inr later ↦ later
      ]

  pub same_lists_of_members : (xs ys : List K) → IsStrictlySortedBy R xs → IsStrictlySortedBy R ys
      → ((q : K) → Contains xs q → Contains ys q) → ((q : K) → Contains ys q → Contains xs q)
      → xs ≡ ys
  same_lists_of_members [] [] h k there back = refl
  same_lists_of_members [] (y ∷ ys) h k there back = absurd (none_listed y (back y (at_head y ys)))
  same_lists_of_members (x ∷ xs) [] h k there back = absurd (none_listed x (there x (at_head x xs)))
  same_lists_of_members (x ∷ xs) (y ∷ ys) h k there back =
      let is = same_heads x y xs ys h k (there x (at_head x xs)) (back y (at_head y ys)) in
      let rest = same_lists_of_members xs ys (sorted_tail R x xs h) (sorted_tail R y ys k)
      (λ q at. in_tail x y q xs ys h is at (there q (at_tail x q xs at)))
      (λ q at. in_tail y x q ys xs k (sym is) at (back q (at_tail y q ys at))) in
      λ i. is i ∷ rest i

  -- the same of what tests find in the lists
  pub same_lists : IsAntisymmetric R → (xs ys : List K) → IsStrictlySortedBy R xs
      → IsStrictlySortedBy R ys
      → ((q : K) → list_any (eq_by_cmp R q) xs ≡ list_any (eq_by_cmp R q) ys) → xs ≡ ys
  same_lists e xs ys h k same = same_lists_of_members xs ys h k
      (λ q at. (is_member-Decides (tie_decides t e) ys q).0
      (sym (same q) ∙ (is_member-Decides (tie_decides t e) xs q).1 at))
      (λ q at. (is_member-Decides (tie_decides t e) xs q).0
      (same q ∙ (is_member-Decides (tie_decides t e) ys q).1 at))
