-- In a list along which an order doesn't fall, what is equal stands together: two searches find it.
use Rattle.std.proofs.Common.{◌≡◌, ℕ, ◌+◌, ◌-◌, ◌≤◌, ◌<◌, Bool, true, false, List, [], ◌∷◌, ◌++◌}
use Rattle.std.proofs.Common.{length, get_or, take, drop, not, Contains, Ordering, Less, Equal}
use Rattle.std.proofs.Common.{Greater, refl, sym, ap, ◌∙◌, subst, arith, append-nil}
use Rattle.std.specs.List.{All, AllWithin, filter}
use Rattle.std.specs.List.Sorted.{IsNonDecreasingBy, IsPartitionedBy, IsPartitionPoint}
use Rattle.std.specs.Ordering.{is_lt, is_eq, ordering_index}
use Rattle.std.proofs.lemmas.List.{take_all, take-append-drop, length-take-le, length-drop}
use Rattle.std.proofs.lemmas.List.{get_or-take, get_or-drop}
use Rattle.std.proofs.lemmas.List.Elements.{All-head, All-tail, Contains-get_or, filter-append}
use Rattle.cvr_lists.proofs.DeviceBodies.{lt_not_eq}

-- ---- tests by their numbers

is_lt-index : (r : Ordering) → is_lt r ≡ true → ordering_index r ≡ 0
is_lt-index Less h = refl
is_lt-index Equal h = Prim.cc h
is_lt-index Greater h = Prim.cc h

lowest : (r : Ordering) → ordering_index r ≤ 0 → is_lt r ≡ true
lowest Less h = refl
lowest Equal h = absurd (omega (arith, h))
lowest Greater h = absurd (omega (arith, h))

is_eq-index : (r : Ordering) → is_eq r ≡ true → ordering_index r ≡ 1
is_eq-index Less h = Prim.cc h
is_eq-index Equal h = refl
is_eq-index Greater h = Prim.cc h

middle : (r : Ordering) → is_lt r ≡ false → ordering_index r ≤ 1 → is_eq r ≡ true
middle Less h k = Prim.cc h
middle Equal h k = refl
middle Greater h k = absurd (omega (arith, k))

-- ---- what a filter leaves

module _ {X : Type 0} (p : X → Bool) where
  filter_none : (xs : List X) → All (λ x. p x ≡ false) xs → filter p xs ≡ []
  filter_none [] h = refl
  filter_none (x ∷ xs) h =
      rw (All-head (λ y. p y ≡ false) x xs h) (filter_none xs (All-tail (λ y. p y ≡ false) x xs h))

  filter_all : (xs : List X) → All (λ x. p x ≡ true) xs → filter p xs ≡ xs
  filter_all [] h = refl
  filter_all (x ∷ xs) h = rw (All-head (λ y. p y ≡ true) x xs h)
      (ap (λ ys. x ∷ ys) (filter_all xs (All-tail (λ y. p y ≡ true) x xs h)))

  All-front : (P : X → Type 0) (xs : List X) (k : ℕ) → k ≤ length xs → AllWithin P xs 0 k
      → All P (take k xs)
  All-front P xs k le h i d lt =
      let here : i < k = omega (arith, lt, length-take-le k xs le) in
      subst P (sym (get_or-take k xs i d here)) (h i d (omega arith) here)

  All-back : (P : X → Type 0) (xs : List X) (k : ℕ) → AllWithin P xs k (length xs)
      → All P (drop k xs)
  All-back P xs k h i d lt =
      subst P (sym (get_or-drop k xs i d))
      (h (k + i) d (omega arith) (omega (arith, lt, length-drop k xs)))

  filter_front : (xs : List X) (k : ℕ) → k ≤ length xs → AllWithin (λ x. p x ≡ true) xs 0 k
      → AllWithin (λ x. p x ≡ false) xs k (length xs) → filter p xs ≡ take k xs
  filter_front xs k le passes fails =
      ap (filter p) (sym (take-append-drop k xs))
      ∙ (filter-append p (take k xs) (drop k xs)
      ∙ ((λ i. filter_all (take k xs) (All-front (λ x. p x ≡ true) xs k le passes) i
      ++ filter_none (drop k xs) (All-back (λ x. p x ≡ false) xs k fails) i)
      ∙ append-nil (take k xs)))

  filter_rest : (xs : List X) (k : ℕ) → k ≤ length xs → AllWithin (λ x. p x ≡ false) xs 0 k
      → AllWithin (λ x. p x ≡ true) xs k (length xs) → filter p xs ≡ drop k xs
  filter_rest xs k le fails passes =
      ap (filter p) (sym (take-append-drop k xs))
      ∙ (filter-append p (take k xs) (drop k xs)
      ∙ (λ i. filter_none (take k xs) (All-front (λ x. p x ≡ false) xs k le fails) i
      ++ filter_all (drop k xs) (All-back (λ x. p x ≡ true) xs k passes) i))

  filter_back : (xs : List X) (k : ℕ) → k ≤ length xs → AllWithin (λ x. p x ≡ false) xs 0 k
      → filter p xs ≡ filter p (drop k xs)
  filter_back xs k le fails =
      ap (filter p) (sym (take-append-drop k xs))
      ∙ (filter-append p (take k xs) (drop k xs)
      ∙ ap (λ ys. ys ++ filter p (drop k xs))
      (filter_none (take k xs) (All-front (λ x. p x ≡ false) xs k le fails)))

-- ---- the two searches

module _ {X : Type 0} (o : X → Ordering) (xs : List X)
    (up : IsNonDecreasingBy (λ y. ordering_index (o y)) xs) where
  pub lesser_first : IsPartitionedBy (λ y. is_lt (o y)) xs
  lesser_first i j d le lt h =
      lowest (o (get_or xs i d)) (omega (arith, up i j d le lt, is_lt-index _ h))

  module _ (k : ℕ) (le : k ≤ length xs)
      (point : IsPartitionPoint (λ y. is_lt (o y) ≡ true) (λ y. is_lt (o y) ≡ false) xs k)
      (rest : List X) (is : rest ≡ take (length xs - k) (drop k xs)) where
    rest_is : rest ≡ drop k xs
    rest_is = is ∙ take_all (length xs - k) (drop k xs) (omega (arith, length-drop k xs))

    rest_at : (i : ℕ) (d : X) → get_or rest i d ≡ get_or xs (k + i) d
    rest_at i d = ap (λ ys. get_or ys i d) rest_is ∙ get_or-drop k xs i d

    pub equal_first : IsPartitionedBy (λ y. is_eq (o y)) rest
    equal_first i j d below lt h =
        let far : k + j < length xs = omega (arith, lt, length-drop k xs, ap length rest_is) in
        let one : ordering_index (o (get_or xs (k + j) d)) ≡ 1 =
        is_eq-index _ (ap (λ y. is_eq (o y)) (sym (rest_at j d)) ∙ h) in
        let few : ordering_index (o (get_or xs (k + i) d))
        ≤ ordering_index (o (get_or xs (k + j) d)) = up (k + i) (k + j) d (omega arith) far in
        let past : is_lt (o (get_or xs (k + i) d)) ≡ false =
        point.1 (k + i) d (omega arith) (omega arith) in
        subst (λ y. is_eq (o y) ≡ true) (sym (rest_at i d))
        (middle _ past (omega (arith, one, few)))

    pub run_is : (n : ℕ) → n ≤ length rest
        → IsPartitionPoint (λ y. is_eq (o y) ≡ true) (λ y. is_eq (o y) ≡ false) rest n
        → take n rest ≡ filter (λ y. is_eq (o y)) xs
    run_is n few found =
        sym (filter_back (λ y. is_eq (o y)) xs k le
        (λ i d low lt. lt_not_eq _ (point.0 i d low lt))
        ∙ (ap (filter (λ y. is_eq (o y))) (sym rest_is)
        ∙ filter_front (λ y. is_eq (o y)) rest n few found.0 found.1))

-- ---- the search where none is less

module _ {X : Type 0} (o : X → Ordering) (xs : List X)
    (up : IsNonDecreasingBy (λ y. ordering_index (o y)) xs)
    (none : (y : X) → Contains xs y → is_lt (o y) ≡ false) where
  not_lt : (i : ℕ) (d : X) → i < length xs → is_lt (o (get_or xs i d)) ≡ false
  not_lt i d lt = none (get_or xs i d) (Contains-get_or xs i d lt)

  pub equal_leads : IsPartitionedBy (λ y. is_eq (o y)) xs
  equal_leads i j d below lt h =
      let one : ordering_index (o (get_or xs j d)) ≡ 1 = is_eq-index _ h in
      let few : ordering_index (o (get_or xs i d)) ≤ ordering_index (o (get_or xs j d)) =
      up i j d below lt in
      middle _ (not_lt i d (omega (arith, below, lt))) (omega (arith, one, few))

  module _ (n : ℕ) (few : n ≤ length xs)
      (found : IsPartitionPoint (λ y. is_eq (o y) ≡ true) (λ y. is_eq (o y) ≡ false) xs n) where
    pub run_leads : take n xs ≡ filter (λ y. is_eq (o y)) xs
    run_leads = sym (filter_front (λ y. is_eq (o y)) xs n few found.0 found.1)

    pub others_follow : drop n xs ≡ filter (λ y. not (is_eq (o y))) xs
    others_follow = sym (filter_rest (λ y. not (is_eq (o y))) xs n few
        (λ i d low lt. ap not (found.0 i d low lt)) (λ i d low lt. ap not (found.1 i d low lt)))
