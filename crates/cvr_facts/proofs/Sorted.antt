-- Lists in strict order, and the sets of their members.
use Rattle.std.proofs.Common.{◌≡◌, ℕ, ◌+◌, ◌<◌, Bool, true, false, cond, not, ◌||◌, List, [], ◌∷◌}
use Rattle.std.proofs.Common.{◌++◌, take, length, get_or, Ordering, Less, Result, Ok, Err, inl, inr}
use Rattle.std.proofs.Common.{refl, sym, ap, ◌∙◌, subst, arith, append-nil}
use Rattle.std.specs.Result.{is_err}
use Rattle.std.specs.List.{AllByRecursion, list_any, filter, dedup}
use Rattle.std.specs.List.Sorted.{IsStrictlySortedBy, IsSorted, IsSearchInRange}
use Rattle.std.specs.List.Sorted.{IsBinarySearchResult}
use Rattle.std.specs.Ordering.{eq_by_cmp, is_eq, is_lt, ordering_reverse}
use Rattle.std.specs.Cmp.{IsTotalOrder, IsEquivalence, both_ways}
use Rattle.std.specs.FinSet.{from_list, union, contains, len, len-empty, len-insert}
use Rattle.std.specs.FinSet.{contains-from_list, contains-union, same_set}
use Rattle.std.specs.FinMap.{IsAntisymmetric}
use Rattle.std.proofs.lemmas.Bool.Decides.{leb_tells}
use Rattle.std.proofs.lemmas.Map.Keys.{Less-from_sorted, sorted_head, sorted_tail}
use Rattle.std.proofs.lemmas.Map.Made.{is_member-Decides}
use Rattle.std.proofs.lemmas.List.Kept.{Contains-dedup, Contains-from_dedup}
use Rattle.std.proofs.lemmas.List.Kept.{IsStrictlySortedBy-filter}
use Rattle.std.proofs.lemmas.List.Elements.{filter_more}
use Rattle.std.proofs.lemmas.List.Folds.{list_any_at, list_any_none, list_any-append}
use Rattle.std.proofs.lemmas.List.Sorted.{searchable_from_sorted}
use Rattle.cvr_facts.proofs.Bools.{or_absorb, or_swap, tie_is, tie_itself, tie_decides}
use Rattle.cvr_facts.proofs.Growth.{AreNew}

-- a loop's step: what passes goes to the end of what is kept
pub filter-pushed : {X : Type 0} (p : X → Bool) (xs kept : List X) (i : ℕ) (x : X) → i < length xs
    → x ≡ get_or xs i x → kept ≡ filter p (take i xs) → p x ≡ true
    → kept ++ x ∷ [] ≡ filter p (take (i + 1) xs)
filter-pushed p xs kept i x lt is had passes =
    (λ j. had j ++ cond (sym passes j) (x ∷ []) [])
    ∙ (ap (λ y. filter p (take i xs) ++ cond (p y) (y ∷ []) []) is
    ∙ sym (filter_more p xs i x lt))

pub filter-passed : {X : Type 0} (p : X → Bool) (xs kept : List X) (i : ℕ) (x : X) → i < length xs
    → x ≡ get_or xs i x → kept ≡ filter p (take i xs) → p x ≡ false
    → kept ≡ filter p (take (i + 1) xs)
filter-passed p xs kept i x lt is had fails =
    sym (append-nil kept) ∙ ((λ j. had j ++ cond (sym fails j) (x ∷ []) [])
    ∙ (ap (λ y. filter p (take i xs) ++ cond (p y) (y ∷ []) []) is
    ∙ sym (filter_more p xs i x lt)))

module _ {K : Type 0} (R : K → K → Ordering) where
  abbrev pub is_missing : List K → K → Bool
  is_missing mine x = not (list_any (eq_by_cmp R x) mine)

  -- a key that is below each of a list is none of it
  none_ties : (x : K) (ys : List K) → AllByRecursion (λ y. R x y ≡ Less) ys
      → list_any (eq_by_cmp R x) ys ≡ false
  none_ties x [] h = refl
  none_ties x (y ∷ ys) h = ap (λ o. is_eq o || list_any (eq_by_cmp R x) ys) h.0 ∙ none_ties x ys h.1

  pub first_alone : (x : K) (xs : List K) → IsStrictlySortedBy R (x ∷ xs)
      → list_any (eq_by_cmp R x) xs ≡ false
  first_alone x xs h = none_ties x xs (sorted_head R x xs h)

module _ {K : Type 0} {R : K → K → Ordering} (t : IsTotalOrder R) where
  pub IsSorted-strict : (xs : List K) → IsStrictlySortedBy R xs → IsSorted R xs
  IsSorted-strict xs h = λ k d low high.
      ap is_lt (t.antisymm (get_or xs (k + 1) d) (get_or xs k d))
      ∙ ap (λ o. is_lt (ordering_reverse o))
      (Less-from_sorted R xs k (k + 1) d h (omega arith) high)

  -- each of a list in strict order counts
  pub len-from_list : (xs : List K) → IsStrictlySortedBy R xs
      → len (from_list {R = R} xs) ≡ length xs
  len-from_list [] h = len-empty R
  len-from_list (x ∷ xs) h =
      let absent : contains (from_list {R = R} xs) x ≡ false =
      contains-from_list t xs x ∙ first_alone R x xs h in
      omega (
        arith,
        len-insert t (from_list {R = R} xs) x,
        ap
            (λ b. cond b (len (from_list {R = R} xs)) (len (from_list {R = R} xs) + 1)) absent,
        len-from_list xs (sorted_tail R x xs h),
      )

module _ {K : Type 0} {R : K → K → Ordering} (t : IsTotalOrder R) (e : IsAntisymmetric R) where
  -- lists with the same members make one set
  pub from_list-same : (xs ys : List K)
      → ((q : K) → list_any (eq_by_cmp R q) xs ≡ list_any (eq_by_cmp R q) ys)
      → from_list {R = R} xs ≡ from_list ys
  from_list-same xs ys same =
      same_set t e _ _ (λ q. contains-from_list t xs q ∙ (same q ∙ sym (contains-from_list t ys q)))

  pub from_list-append : (xs ys : List K)
      → from_list {R = R} (xs ++ ys) ≡ union (from_list xs) (from_list ys)
  from_list-append xs ys = same_set t e _ _ (λ q.
      contains-from_list t (xs ++ ys) q
      ∙ (list_any-append (eq_by_cmp R q) xs ys
      ∙ ((λ i. sym (contains-from_list t xs q) i || sym (contains-from_list t ys q) i)
      ∙ sym (contains-union t (from_list xs) (from_list ys) q))))

  pub list_any-dedup : {E : K → K → Bool} → IsEquivalence E → ((x y : K) → E x y ≡ eq_by_cmp R x y)
      → (xs : List K) (q : K) → list_any (eq_by_cmp R q) (dedup E xs) ≡ list_any (eq_by_cmp R q) xs
  list_any-dedup {E = E} laws ties xs q = both_ways _ _
      (λ h. (is_member-Decides (tie_decides t e) xs q).1
      (Contains-from_dedup E xs q ((is_member-Decides (tie_decides t e) (dedup E xs) q).0 h)))
      (λ h. (is_member-Decides (tie_decides t e) (dedup E xs) q).1
      (Contains-dedup laws (λ x y a. tie_is e x y (sym (ties x y) ∙ a)) xs q
      ((is_member-Decides (tie_decides t e) xs q).0 h)))

  -- ---- those that are missing from a list

  -- they make up the difference
  pub any_missing : (mine theirs : List K) (q : K)
      → (list_any (eq_by_cmp R q) mine || list_any (eq_by_cmp R q)
      (filter (is_missing R mine) theirs))
      ≡ (list_any (eq_by_cmp R q) mine || list_any (eq_by_cmp R q) theirs)
  any_missing mine [] q = refl
  any_missing mine (x ∷ theirs) q =
      let among : List K → Bool = λ zs. list_any (eq_by_cmp R q) zs in
      elim (list_any (eq_by_cmp R x) mine) as
      (λ b. list_any (eq_by_cmp R x) mine ≡ b
      → (among mine || among (cond (not b) (x ∷ filter (is_missing R mine) theirs)
      (filter (is_missing R mine) theirs))) ≡ (among mine || (eq_by_cmp R q x || among theirs))) [
        | true ↦ λ had. any_missing mine theirs q
            ∙ sym (or_absorb (among mine) (eq_by_cmp R q x) (among theirs)
            (λ same. subst (λ z. list_any (eq_by_cmp R z) mine ≡ true) (sym (tie_is e q x same))
            had))
        | false ↦ λ _. or_swap (among mine) (eq_by_cmp R q x) _
            ∙ (ap (λ b. eq_by_cmp R q x || b) (any_missing mine theirs q)
            ∙ or_swap (eq_by_cmp R q x) (among mine) (among theirs))
      ] refl

  pub union-missing : (mine theirs : List K)
      → union (from_list {R = R} mine) (from_list (filter (is_missing R mine) theirs))
      ≡ union (from_list mine) (from_list theirs)
  union-missing mine theirs = same_set t e _ _ (λ q.
      contains-union t (from_list mine) (from_list (filter (is_missing R mine) theirs)) q
      ∙ ((λ i. contains-from_list t mine q i
      || contains-from_list t (filter (is_missing R mine) theirs) q i)
      ∙ (any_missing mine theirs q
      ∙ ((λ i. sym (contains-from_list t mine q) i || sym (contains-from_list t theirs q) i)
      ∙ sym (contains-union t (from_list mine) (from_list theirs) q)))))

  new_from : (mine theirs : List K) → IsStrictlySortedBy R (filter (is_missing R mine) theirs)
      → AreNew (from_list {R = R} mine) (filter (is_missing R mine) theirs)
  new_from mine [] h = tt
  new_from mine (x ∷ theirs) h =
      elim (list_any (eq_by_cmp R x) mine) as
      (λ b. list_any (eq_by_cmp R x) mine ≡ b
      → IsStrictlySortedBy R (cond (not b) (x ∷ filter (is_missing R mine) theirs)
      (filter (is_missing R mine) theirs))
      → AreNew (from_list {R = R} mine)
      (cond (not b) (x ∷ filter (is_missing R mine) theirs)
      (filter (is_missing R mine) theirs))) [
        | true ↦ λ had k. new_from mine theirs k
        | false ↦ λ had k. (
          contains-from_list t mine x
              ∙ had,
          first_alone R x (filter (is_missing R mine) theirs) k,
          new_from mine theirs
              (sorted_tail R x _ k),
        )
      ] refl h

  -- and each is new once
  pub AreNew-missing : (mine theirs : List K) → IsStrictlySortedBy R theirs
      → AreNew (from_list {R = R} mine) (filter (is_missing R mine) theirs)
  AreNew-missing mine theirs h =
      new_from mine theirs (IsStrictlySortedBy-filter R (is_missing R mine) theirs h)

  -- a search in strict order fails where the key is missing
  pub is_err-search : (xs : List K) (x : K) (r : Result ℕ ℕ) → IsStrictlySortedBy R xs
      → IsSearchInRange r (length xs) → IsBinarySearchResult (λ y. R y x) xs r
      → is_err r ≡ is_missing R xs x
  is_err-search xs x (Ok i) h bound found =
      let tie : eq_by_cmp R x (get_or xs i x) ≡ true =
      tie_itself t x (get_or xs i x) (sym (e (get_or xs i x) x (found x))) in
      sym (ap not (list_any_at (eq_by_cmp R x) xs i x bound tie))
  is_err-search xs x (Err i) h bound found =
      let parts = found (searchable_from_sorted t (λ z. z) xs x (IsSorted-strict t xs h)) in
      sym (ap not (list_any_none (eq_by_cmp R x) xs (λ k d lt. elim (leb_tells i k) [
        | inl (_, above) ↦ ap is_eq (t.antisymm x (get_or xs k d))
            ∙ ap (λ o. is_eq (ordering_reverse o)) (parts.1 k d above lt)
        | inr (_, below) ↦ ap is_eq (t.antisymm x (get_or xs k d))
            ∙ ap (λ o. is_eq (ordering_reverse o)) (parts.0 k d (omega arith) below)
      ])))
