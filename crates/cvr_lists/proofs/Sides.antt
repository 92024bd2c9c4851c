-- What stands side by side in a list in order: behind those that one test passes, before those that
-- another fails.
use Rattle.std.proofs.Common.{◌≡◌, ℕ, ◌+◌, ◌<◌, ◌≤◌, Bool, true, false}
use Rattle.std.proofs.Common.{List, [], ◌∷◌, ◌++◌, length, map, take, drop, get_or, Ordering, Less}
use Rattle.std.proofs.Common.{refl, sym, ap, ◌∙◌, subst, arith, get_or-take, get_or-drop}
use Rattle.std.proofs.Common.{length-take, length-drop, append-nil}
use Rattle.std.specs.List.{AllByRecursion, All, filter}
use Rattle.std.specs.List.Sorted.{IsStrictlySortedBy, IsPartitionedBy, IsPartitionPoint}
use Rattle.std.proofs.lemmas.List.{take-append-drop}
use Rattle.std.proofs.lemmas.List.Elements.{All-head, All-tail}
use Rattle.std.proofs.lemmas.List.Elements.{filter-append, filter_passes}

filter_all : {X : Type 0} (p : X → Bool) (xs : List X) → All (λ x. p x ≡ true) xs → filter p xs ≡ xs
filter_all p [] h = refl
filter_all p (x ∷ xs) h = rw (All-head (λ y. p y ≡ true) x xs h)
    (ap (λ ys. x ∷ ys) (filter_all p xs (All-tail (λ y. p y ≡ true) x xs h)))

filter_none : {X : Type 0} (p : X → Bool) (xs : List X) → All (λ x. p x ≡ false) xs
    → filter p xs ≡ []
filter_none p [] h = refl
filter_none p (x ∷ xs) h =
    rw (All-head (λ y. p y ≡ false) x xs h) (filter_none p xs (All-tail (λ y. p y ≡ false) x xs h))

-- ---- by places

module _ {X : Type 0} (xs : List X) (n : ℕ) where
  in_front : (P : X → Type 0) → ((k : ℕ) (d : X) → k < n → k < length xs → P (get_or xs k d))
      → All P (take n xs)
  in_front P h k d lt = let near : (k < n)
      × (k < length xs) = (omega (arith, lt, length-take n xs), omega (arith, lt, length-take n xs))
      in subst P (sym (get_or-take n xs k d near.0)) (h k d near.0 near.1)

  behind : (P : X → Type 0) → ((k : ℕ) (d : X) → n ≤ k → k < length xs → P (get_or xs k d))
      → All P (drop n xs)
  behind P h k d lt = subst P (sym (get_or-drop n xs k d))
      (h (n + k) d (omega arith) (omega (arith, lt, length-drop n xs)))

  pub parted_behind : (p : X → Bool) → IsPartitionedBy p xs → IsPartitionedBy p (drop n xs)
  parted_behind p h i j d le lt ok =
      subst (λ y. p y ≡ true) (sym (get_or-drop n xs i d))
      (h (n + i) (n + j) d (omega (arith, le)) (omega (arith, lt, length-drop n xs))
      (subst (λ y. p y ≡ true) (get_or-drop n xs j d) ok))

  filter_split : (q : X → Bool) → filter q xs ≡ filter q (take n xs) ++ filter q (drop n xs)
  filter_split q =
      ap (filter q) (sym (take-append-drop n xs)) ∙ filter-append q (take n xs) (drop n xs)

module _ {X : Type 0} (p r q : X → Bool) (passed : (x : X) → p x ≡ true → q x ≡ false)
    (failed : (x : X) → r x ≡ false → q x ≡ false)
    (kept : (x : X) → p x ≡ false → r x ≡ true → q x ≡ true)
    (xs : List X) (i j : ℕ) (start : IsPartitionPoint (λ x. p x ≡ true) (λ x. p x ≡ false) xs i)
    (end : IsPartitionPoint (λ x. r x ≡ true) (λ x. r x ≡ false) (drop i xs) j) where
  late : All (λ x. p x ≡ false) (drop i xs)
  late = behind xs i (λ x. p x ≡ false) (λ k d le lt. start.1 k d le lt)

  pub filter-between : filter q xs ≡ take j (drop i xs)
  filter-between =
      let rest = drop i xs in
      let before = filter_none q (take i xs)
      (in_front xs i (λ x. q x ≡ false)
      (λ k d lt in'. passed (get_or xs k d) (start.0 k d (omega arith) lt))) in
      let after = filter_none q (drop j rest)
      (behind rest j (λ x. q x ≡ false)
      (λ k d le lt. failed (get_or rest k d) (end.1 k d le lt))) in
      let own = filter_all q (take j rest)
      (in_front rest j (λ x. q x ≡ true)
      (λ k d lt in'. kept (get_or rest k d) (late k d in') (end.0 k d (omega arith) lt))) in
      filter_split xs i q ∙ ((λ k. before k ++ filter q rest)
      ∙ (filter_split rest j q ∙ ((λ k. own k ++ after k) ∙ append-nil (take j rest))))

-- ---- images of a rising list rise where its order goes over

module _ {X K : Type 0} (P : X → X → Ordering) (R : K → K → Ordering) (g : X → K) (q : X → Bool)
    (over : (x y : X) → q x ≡ true → q y ≡ true → P x y ≡ Less → R (g x) (g y) ≡ Less) where
  each_over : (x : X) → q x ≡ true → (ys : List X) → All (λ y. q y ≡ true) ys
      → AllByRecursion (λ y. P x y ≡ Less) ys → AllByRecursion (λ k. R (g x) k ≡ Less) (map g ys)
  each_over x ok [] all h = tt
  each_over x ok (y ∷ ys) all h = (
    over x y ok (All-head (λ y. q y ≡ true) y ys all) h.0,
    each_over
        x ok ys (All-tail (λ y. q y ≡ true) y ys all) h.1,
  )

  rises_over : (xs : List X) → All (λ y. q y ≡ true) xs → IsStrictlySortedBy P xs
      → IsStrictlySortedBy R (map g xs)
  unfolding IsStrictlySortedBy
  rises_over [] all h = tt
  rises_over (x ∷ xs) all h = (
    each_over x (All-head (λ y. q y ≡ true) x xs all) xs
        (All-tail (λ y. q y ≡ true) x xs all) h.0,
    rises_over xs (All-tail (λ y. q y ≡ true) x xs all)
        h.1,
  )

  pub map-rises : (xs : List X) → IsStrictlySortedBy P (filter q xs)
      → IsStrictlySortedBy R (map g (filter q xs))
  map-rises xs h = rises_over (filter q xs) (filter_passes q xs) h
