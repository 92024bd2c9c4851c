-- A list in strict order of its keys, and the set of those keys: its number, growth, and the one
-- list that it is.
use Rattle.std.proofs.Common.{◌≡◌, ℕ, ◌+◌, ◌-◌, ◌≤◌, Bool, true, false, cond, ◌||◌, List, [], ◌∷◌}
use Rattle.std.proofs.Common.{◌++◌, length, map, Contains, inl, inr, refl, sym, ap, ◌∙◌, subst}
use Rattle.std.proofs.Common.{arith, Less, Equal, Ordering}
use Rattle.std.specs.Prelude.{◌⊎◌}
use Rattle.std.specs.List.{AllByRecursion, list_any, dedup}
use Rattle.std.specs.List.Sorted.{IsStrictlySortedBy, IsSorted, IsPermutation}
use Rattle.std.specs.Ordering.{on, eq_by_cmp}
use Rattle.std.specs.Cmp.{IsTotalOrder, Equal-is, both_ways, eq_by_cmp_equiv, tied_itself}
use Rattle.std.specs.FinMap.{IsAntisymmetric}
use Rattle.std.specs.FinSet.{FinSet, contains, from_list, union, insert, len, len-empty, len-insert}
use Rattle.std.specs.FinSet.{contains-from_list, contains-union, contains-insert, same_set}
use Rattle.std.proofs.lemmas.Map.Keys.{sorted_head, sorted_tail}
use Rattle.std.proofs.lemmas.Cmp.{on_total}
use Rattle.std.proofs.lemmas.List.Elements.{All-contains, All-from_recursion, Contains-append_left}
use Rattle.std.proofs.lemmas.List.Elements.{Contains-append_right, Contains-append_cases}
use Rattle.std.proofs.lemmas.List.Kept.{Any-dedup, Contains-from_dedup, IsStrictlySortedBy-dedup}
use Rattle.std.proofs.lemmas.List.Sorted.{Contains-permutation, IsPermutation-sym}
use Rattle.std.proofs.lemmas.Bool.{or_cases}
use Rattle.std.proofs.Math.Bool.{or-false}
use Rattle.cvr_facts.proofs.Lemmas.{in_map, from_map, in_set, from_set}

-- ---- tests joined by `||`

or_true : (a b : Bool) → (a ≡ true) ⊎ (b ≡ true) → (a || b) ≡ true
or_true true b h = refl
or_true false b (inl e) = Prim.cc e
or_true false b (inr e) = e

-- ---- sets

module _ {K : Type 0} {S : K → K → Ordering} (st : IsTotalOrder S) (se : IsAntisymmetric S) where
  -- the set of a list has what the list has
  pub set_is : (xs : List K) (s : FinSet S) → ((k : K) → Contains xs k → contains s k ≡ true)
      → ((k : K) → contains s k ≡ true → Contains xs k) → from_list {R = S} xs ≡ s
  set_is xs s there back = same_set st se _ _
      (λ k. both_ways _ _ (λ h. there k (from_set st se xs k h))
      (λ h. in_set st se xs k (back k h)))

  pub in_union : (s t : FinSet S) (k : K) → (contains s k ≡ true) ⊎ (contains t k ≡ true)
      → contains (union s t) k ≡ true
  in_union s t k h = contains-union st s t k ∙ or_true _ _ h

  pub from_union : (s t : FinSet S) (k : K) → contains (union s t) k ≡ true
      → (contains s k ≡ true) ⊎ (contains t k ≡ true)
  from_union s t k h = or_cases _ _ (sym (contains-union st s t k) ∙ h)

  abbrev with_all : FinSet S → List K → FinSet S
  with_all s [] = s
  with_all s (k ∷ ks) = insert (with_all s ks) k

  len-insert-le : (b : Bool) (n : ℕ) → n ≤ cond b n (n + 1)
  len-insert-le true n = omega arith
  len-insert-le false n = omega arith

  len-with_all : (s : FinSet S) (ks : List K) → len s ≤ len (with_all s ks)
  len-with_all s [] = omega arith
  len-with_all s (k ∷ ks) =
      let more = len-insert-le (contains (with_all s ks) k) (len (with_all s ks)) in
      omega (arith, len-with_all s ks, len-insert st (with_all s ks) k, more)

  or_move : (a b c : Bool) → (a || (b || c)) ≡ (b || (a || c))
  or_move a b c = grind arith

  contains-with_all : (s : FinSet S) (ks : List K) (q : K)
      → contains (with_all s ks) q ≡ (contains s q || list_any (eq_by_cmp S q) ks)
  contains-with_all s [] q = sym (or-false (contains s q))
  contains-with_all s (k ∷ ks) q =
      contains-insert st (with_all s ks) k q
      ∙ (ap (λ b. eq_by_cmp S q k || b) (contains-with_all s ks q)
      ∙ or_move (eq_by_cmp S q k) (contains s q) (list_any (eq_by_cmp S q) ks))

  -- a set doesn't shrink by a union
  pub len-union : (s : FinSet S) (ks : List K) → len s ≤ len (union s (from_list ks))
  len-union s ks =
      let same : union s (from_list ks) ≡ with_all s ks = same_set st se _ _ (λ q.
      contains-union st s (from_list ks) q
      ∙ (ap (λ b. contains s q || b) (contains-from_list st ks q)
      ∙ sym (contains-with_all s ks q)))
      in
      omega (arith, len-with_all s ks, ap len same)

-- ---- lists in strict order of their keys

pub less_alone : (r : Ordering) → r ≡ Less → r ≡ Equal → ⊥
less_alone r a b = let both : Less ≡ Equal = sym a ∙ b in cc

pub each_of : {X : Type 0} (T : X → Type 0) (xs : List X) (x : X) → AllByRecursion T xs → Contains xs x
    → T x
each_of T xs x h at = All-contains T xs x (All-from_recursion T xs h) at

module _ {X K : Type 0} (key : X → K) {P S : K → K → Ordering} (pt : IsTotalOrder P)
    (st : IsTotalOrder S) (se : IsAntisymmetric S) where
  -- a key that is below each isn't among them
  not_among : (x : X) (xs : List X) → AllByRecursion (λ y. on key P x y ≡ Less) xs
      → Contains (map key xs) (key x) → ⊥
  not_among x xs below at =
      let found = from_map key (key x) xs at in
      less_alone _ (each_of (λ y. on key P x y ≡ Less) xs found.0 below found.1)
      (ap (P (key x)) found.2 ∙ tied_itself pt (key x))

  absent : (x : X) (xs : List X) → IsStrictlySortedBy (on key P) (x ∷ xs)
      → contains (from_list {R = S} (map key xs)) (key x) ≡ false
  absent x xs h =
      elim (contains (from_list {R = S} (map key xs)) (key x)) as
      (λ b. contains (from_list {R = S} (map key xs)) (key x) ≡ b → b ≡ false) [
        | true ↦ λ e. absurd (not_among x xs (sorted_head (on key P) x xs h)
            (from_set st se (map key xs) (key x) e))
        | false ↦ λ _. refl
      ] refl

  -- each counts
  pub len-from_list : (xs : List X) → IsStrictlySortedBy (on key P) xs
      → len (from_list {R = S} (map key xs)) ≡ length xs
  len-from_list [] h = len-empty S
  len-from_list (x ∷ xs) h =
      let rest = len-from_list xs (sorted_tail (on key P) x xs h) in
      let new = ap (λ b. cond b (len (from_list {R = S} (map key xs)))
      (len (from_list {R = S} (map key xs)) + 1)) (absent x xs h) in
      omega (arith, len-insert st (from_list {R = S} (map key xs)) (key x), new, rest)

-- ---- lists put together, in order and each key once

-- what a list holds after another was put in
pub record IsPutIn {X K : Type 0} (key : X → K) (P S : K → K → Ordering)
    (old more new : List X) : Type 0 where
  pub rises : IsStrictlySortedBy (on key P) new
  pub from : (x : X) → Contains new x → Contains old x ⊎ Contains more x
  pub set : from_list {R = S} (map key new)
      ≡ union (from_list (map key old)) (from_list (map key more))

module _ {X K : Type 0} (key : X → K) {P S : K → K → Ordering} (pt : IsTotalOrder P)
    (pe : IsAntisymmetric P) (st : IsTotalOrder S) (se : IsAntisymmetric S)
    (old more sorted : List X) (moved : IsPermutation (old ++ more) sorted)
    (rises : IsSorted (on key P) sorted) where
  abbrev once : List X
  once = dedup (eq_by_cmp (on key P)) sorted

  was_in : (x : X) → Contains once x → Contains old x ⊎ Contains more x
  was_in x h = Contains-append_cases old more x
      (Contains-permutation _ _ x (IsPermutation-sym _ _ moved)
      (Contains-from_dedup (eq_by_cmp (on key P)) sorted x h))

  kept : (x : X) → Contains (old ++ more) x → Contains (map key once) (key x)
  kept x h =
      let one = Any-dedup (eq_by_cmp_equiv (on_total key pt)) sorted x
      (Contains-permutation _ _ x moved h) in
      subst (Contains (map key once)) (sym
      (pe (key x) (key one.1) ((Equal-is (P (key x) (key one.1))).0 one.4)))
      (in_map key one.1 once (one.0, one.2, one.3))

  abbrev both : FinSet S
  both = union (from_list (map key old)) (from_list (map key more))

  there : (k : K) → Contains (map key once) k → contains both k ≡ true
  there k at =
      let found = from_map key k once at in
      in_union st se (from_list (map key old)) (from_list (map key more)) k
      (elim (was_in found.0 found.1) [
        | inl a ↦ inl (in_set st se (map key old) k
            (subst (Contains (map key old)) found.2 (in_map key found.0 old a)))
        | inr b ↦ inr (in_set st se (map key more) k
            (subst (Contains (map key more)) found.2 (in_map key found.0 more b)))
      ])

  back : (k : K) → contains both k ≡ true → Contains (map key once) k
  back k h =
      elim (from_union st se (from_list (map key old)) (from_list (map key more)) k h) [
        | inl a ↦ let found = from_map key k old (from_set st se (map key old) k a) in
            subst (Contains (map key once)) found.2
            (kept found.0 (Contains-append_left old more found.0 found.1))
        | inr b ↦ let found = from_map key k more (from_set st se (map key more) k b) in
            subst (Contains (map key once)) found.2
            (kept found.0 (Contains-append_right old more found.0 found.1))
      ]

  pub put_in : (new : List X) → new ≡ once → IsPutIn key P S old more new
  put_in new is = subst (IsPutIn key P S old more) (sym is) record {
    rises = IsStrictlySortedBy-dedup (on_total key pt) (λ _ _. refl) sorted rises;
    from = was_in;
    set = set_is st se (map key once) both there back;
  }

-- by how much the set grows
pub growth_is : {X K : Type 0} (key : X → K) {P S : K → K → Ordering} (pt : IsTotalOrder P)
    (st : IsTotalOrder S) (se : IsAntisymmetric S) (old more new : List X)
    → IsStrictlySortedBy (on key P) old → IsPutIn key P S old more new
    → (length old ≤ length new) × (length new - length old
    ≡ len (union (from_list {R = S} (map key old)) (from_list (map key more)))
    - len (from_list {R = S} (map key old)))
growth_is key {P} {S} pt st se old more new h put =
    let was = len-from_list key pt st se old h in
    let is : len (union (from_list {R = S} (map key old)) (from_list (map key more))) ≡ length new =
    ap len (sym put.set) ∙ len-from_list key pt st se new put.rises in
    let more_or_same = len-union st se (from_list {R = S} (map key old)) (map key more) in
    (omega (arith, was, is, more_or_same), rw (was, is) refl)
