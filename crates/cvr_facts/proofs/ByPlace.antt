-- A snapshot has the sums of each of its contests once, in order of place.
use Rattle.std.proofs.Common.{◌≡◌, ◌<◌, ◌≤◌, ◌+◌, ℕ, zero, suc, List, [], ◌∷◌, ◌++◌, map, get_or}
use Rattle.std.proofs.Common.{true, false, cond, refl, sym, ap, ap₂, subst, ◌∙◌, ⊎_elim, arith}
use Rattle.std.proofs.Common.{eq-eqb, ne_eqb, nat_cmp, Less}
use Rattle.std.specs.Prelude.{◌==◌, length}
use Rattle.std.specs.List.{All, AllByRecursion, IsDistinct, filter, flat_map, list_any}
use Rattle.std.specs.List.{range_with_len}
use Rattle.std.specs.Cmp.{nat_cmp_is}
use Rattle.std.specs.Ordering.{on}
use Rattle.std.specs.List.Sorted.{IsPermutation, IsNonDecreasingBy, IsStrictlySortedBy}
use Rattle.std.proofs.lemmas.Bool.{cases_eq, eqb-false}
use Rattle.std.proofs.lemmas.Cmp.{nat_cmp_total, nat_eq_equiv, on_total}
use Rattle.std.proofs.lemmas.List.{map-append, length-map, get_or-map}
use Rattle.std.proofs.lemmas.List.Elements.{Contains-get_or, All-head, All-tail}
use Rattle.std.proofs.lemmas.List.FromFn.{length-range_with_len, get_or-range_with_len}
use Rattle.std.proofs.lemmas.List.Kept.{IsStrictlySortedBy-filter}
use Rattle.std.proofs.lemmas.List.Sorted.{Contains-permutation, IsPermutation-refl}
use Rattle.std.proofs.lemmas.List.Sorted.{IsPermutation-sym, IsPermutation-trans}
use Rattle.std.proofs.lemmas.List.Sorted.{IsPermutation-cons, IsPermutation-middle}
use Rattle.std.proofs.lemmas.List.Sorted.{IsPermutation-append_right, IsPermutation-map}
use Rattle.std.proofs.lemmas.Map.Keys.{IsDistinct-head, IsDistinct-tail, IsDistinct-IsPermutation}
use Rattle.std.proofs.lemmas.Map.Keys.{apart_from_distinct, sorted_from_all_adjacent}
use Rattle.std.proofs.lemmas.Map.Keys.{sorted_from_strictly_increasing}
use Rattle.cdf_types.specs.declared.report.ContestVote.{ContestVote}
use Rattle.cdf_parts.specs.Places.{Contest}
use Rattle.cvr_fact_types.specs.declared.sums.VoteSums.{VoteSums}
use Rattle.cvr_facts.specs.Sums.{sums_of, by_place, sums_in, AreInRange}
use Rattle.cvr_facts.specs.SumLaws.{EachOnceLaw, InOrderLaw}
use Rattle.cvr_facts.proofs.SameLists.{same_lists_of_members}

module _ {X : Type 0} (key : X → ℕ) where
  -- the items at each of n places from a place on, in order of place
  abbrev placed : ℕ → ℕ → List X → List X
  placed p n xs = flat_map (λ place. filter (λ x. key x == place) xs) (range_with_len p n)

  -- ---- they are all there

  placed-below : (n p : ℕ) (x : X) (xs : List X) → key x < p → placed p n (x ∷ xs) ≡ placed p n xs
  placed-below zero p x xs less = refl
  placed-below (suc n) p x xs less =
      rw (ne_eqb (key x) p (λ e. omega arith))
      (ap (λ l. filter (λ y. key y == p) xs ++ l) (placed-below n (p + 1) x xs (omega arith)))

  put_in_place : (n p : ℕ) (x : X) (xs : List X) → p ≤ key x → key x < p + n
      → IsPermutation (x ∷ placed p n xs) (placed p n (x ∷ xs))
  put_in_place zero p x xs low high = absurd (omega arith)
  put_in_place (suc n) p x xs low high =
      let here = filter (λ y. key y == p) xs in
      let later = placed (p + 1) n xs in
      ⊎_elim
      (λ e.
      rw (eq-eqb (key x) p e) (subst (λ ys. IsPermutation (x ∷ (here ++ later)) (x ∷ (here ++ ys)))
      (sym (placed-below n (p + 1) x xs (omega arith)))
      (IsPermutation-refl (x ∷ (here ++ later)))))
      (λ ne.
      rw (ne_eqb (key x) p ne)
      (IsPermutation-trans (x ∷ (here ++ later)) (here ++ x ∷ later)
      (here ++ placed (p + 1) n (x ∷ xs))
      (IsPermutation-sym (here ++ x ∷ later) (x ∷ (here ++ later))
      (IsPermutation-middle here x later))
      (IsPermutation-append_right here (x ∷ later) (placed (p + 1) n (x ∷ xs))
      (put_in_place n (p + 1) x xs (omega (arith, low, ne)) (omega (arith, high))))))
      (cases_eq (key x) p)

  placed-nil : (n p : ℕ) → placed p n [] ≡ []
  placed-nil zero p = refl
  placed-nil (suc n) p = placed-nil n (p + 1)

  placed-all : (n : ℕ) (xs : List X) → All (λ x. key x < n) xs → IsPermutation xs (placed 0 n xs)
  placed-all n [] below = subst (IsPermutation []) (sym (placed-nil n 0)) (IsPermutation-refl [])
  placed-all n (x ∷ xs) below =
      IsPermutation-trans (x ∷ xs) (x ∷ placed 0 n xs) (placed 0 n (x ∷ xs))
      (IsPermutation-cons x xs (placed 0 n xs)
      (placed-all n xs (All-tail (λ y. key y < n) x xs below)))
      (put_in_place n 0 x xs (omega arith) (omega (arith, All-head (λ y. key y < n) x xs below)))

  -- ---- where each place is taken once at most, they rise

  abbrev Once : List X → Type 0
  Once xs = IsDistinct ◌==◌ (map key xs)

  none_at : (p : ℕ) (xs : List X) → AllByRecursion (λ k. p == k ≡ false) (map key xs)
      → filter (λ x. key x == p) xs ≡ []
  none_at p [] none = refl
  none_at p (x ∷ xs) none =
      rw (ne_eqb (key x) p (λ e. eqb-false p (key x) none.0 (sym e))) (none_at p xs none.1)

  key_at : (p : ℕ) (xs : List X) → Once xs
      → map key (filter (λ x. key x == p) xs) ≡ cond (list_any (λ x. key x == p) xs) (p ∷ []) []
  key_at p [] once = refl
  key_at p (x ∷ xs) once =
      ⊎_elim
      (λ e.
      let none = none_at p xs (subst (λ k. AllByRecursion (λ j. k == j ≡ false) (map key xs)) e
      (IsDistinct-head ◌==◌ (key x) (map key xs) once)) in
      rw (eq-eqb (key x) p e) (ap₂ ◌∷◌ e (ap (map key) none)))
      (λ ne. rw (ne_eqb (key x) p ne) (key_at p xs
      (IsDistinct-tail ◌==◌ (key x) (map key xs) once)))
      (cases_eq (key x) p)

  -- their keys are the places that are taken
  keys-placed : (n p : ℕ) (xs : List X) → Once xs
      → map key (placed p n xs) ≡ filter (λ q. list_any (λ x. key x == q) xs) (range_with_len p n)
  keys-placed zero p xs once = refl
  keys-placed (suc n) p xs once =
      let rest = filter (λ q. list_any (λ x. key x == q) xs) (range_with_len (p + 1) n) in
      map-append key (filter (λ x. key x == p) xs) (placed (p + 1) n xs)
      ∙ (ap₂ ◌++◌ (key_at p xs once) (keys-placed n (p + 1) xs once)
      ∙ elim (list_any (λ x. key x == p) xs) as
      (λ b. cond b (p ∷ []) [] ++ rest ≡ cond b (p ∷ rest) rest) [ true ↦ refl | false ↦ refl ])

  range_rises : (p n : ℕ) → IsStrictlySortedBy nat_cmp (range_with_len p n)
  range_rises p n =
      let long = length-range_with_len p n in
      sorted_from_strictly_increasing (range_with_len p n)
      (λ k less. omega (
        arith,
        get_or-range_with_len p n k 0 (omega (arith, long, less)),
        get_or-range_with_len p n (k + 1) 0 (omega (arith, long, less)),
      ))

  placed-rise : (n p : ℕ) (xs : List X) → Once xs
      → IsStrictlySortedBy nat_cmp (map key (placed p n xs))
  placed-rise n p xs once =
      subst (IsStrictlySortedBy nat_cmp) (sym (keys-placed n p xs once))
      (IsStrictlySortedBy-filter nat_cmp (λ q. list_any (λ x. key x == q) xs) (range_with_len p n)
      (range_rises p n))

  -- ---- lists in order of their keys

  above_keys : (x : X) (xs : List X) → AllByRecursion (λ k. nat_cmp (key x) k ≡ Less) (map key xs)
      → AllByRecursion (λ y. nat_cmp (key x) (key y) ≡ Less) xs
  above_keys x [] h = tt
  above_keys x (y ∷ ys) h = (h.0, above_keys x ys h.1)

  by_keys : (xs : List X) → IsStrictlySortedBy nat_cmp (map key xs)
      → IsStrictlySortedBy (on key nat_cmp) xs
  unfolding IsStrictlySortedBy
  by_keys [] h = tt
  by_keys (x ∷ xs) h = (above_keys x xs h.0, by_keys xs h.1)

  -- one that doesn't fall, where each key stands once
  once_by_keys : (xs : List X) → IsNonDecreasingBy key xs → Once xs
      → IsStrictlySortedBy (on key nat_cmp) xs
  unfolding IsStrictlySortedBy
  once_by_keys [] up once = tt
  once_by_keys (x ∷ xs) up once =
      sorted_from_all_adjacent (on_total key nat_cmp_total) (x ∷ xs) x (λ k less.
      let long = length-map (x ∷ xs) key in
      let apart = apart_from_distinct ◌==◌ (map key (x ∷ xs)) k (k + 1) (key x) once (omega arith)
      (omega (arith, long, less)) in
      let here = get_or-map key (x ∷ xs) k x (key x) (omega (arith, less)) in
      let next = get_or-map key (x ∷ xs) (k + 1) x (key x) less in
      let differ = eqb-false _ _ apart in
      sym (nat_cmp_is (key (get_or (x ∷ xs) k x)) (key (get_or (x ∷ xs) (k + 1) x)) Less
      (omega (arith, up k (k + 1) x (omega arith) less, differ, here, next))))

-- ---- the sums of a snapshot

map-contest : (contests : List Contest) (votes : List ContestVote)
    → map (λ s. s.contest) (map (sums_of contests) votes) ≡ map (λ v. v.contest) votes
map-contest contests [] = refl
map-contest contests (v ∷ votes) = ap (λ l. v.contest ∷ l) (map-contest contests votes)

pub each_once : EachOnceLaw
each_once contests votes h =
    IsPermutation-map (sums_of contests) votes (by_place contests votes)
    (placed-all (λ v. v.contest) (length contests) votes
    (λ k d less. (h.each _ (Contains-get_or votes k d less)).place))

pub in_order : InOrderLaw
in_order contests votes h =
    subst (IsStrictlySortedBy nat_cmp) (sym (map-contest contests (by_place contests votes)))
    (placed-rise (λ v. v.contest) (length contests) 0 votes h.once)

-- sorted by contest they are in order of place
pub sorted_sums : (contests : List Contest) (votes : List ContestVote) → AreInRange contests votes
    → (sums sorted : List VoteSums)
    → sums ≡ map (sums_of contests) votes → IsPermutation sums sorted
    → IsNonDecreasingBy (λ s. s.contest) sorted → sorted ≡ sums_in contests votes
sorted_sums contests votes h sums sorted is moved up =
    let mine = subst (λ l. IsPermutation l sorted) is moved in
    let theirs = each_once contests votes h in
    let keys = IsPermutation-map (λ (s : VoteSums). s.contest) (map (sums_of contests) votes) sorted
    mine in
    let once = IsDistinct-IsPermutation ◌==◌ nat_eq_equiv.symm _ _ keys
    (rw (map-contest contests votes) h.once) in
    same_lists_of_members (on_total (λ s. s.contest) nat_cmp_total) sorted (sums_in contests votes)
    (once_by_keys (λ s. s.contest) sorted up once)
    (by_keys (λ s. s.contest) (sums_in contests votes) (in_order contests votes h))
    (λ q at. Contains-permutation _ _ q theirs
    (Contains-permutation _ _ q (IsPermutation-sym _ _ mine) at))
    (λ q at. Contains-permutation _ _ q mine
    (Contains-permutation _ _ q (IsPermutation-sym _ _ theirs) at))
