-- The conflicts of the set that a list in strict order makes.
use Rattle.std.proofs.Common.{◌≡◌, ℕ, List, [], ◌∷◌, length, map, Contains, refl, sym, ap}
use Rattle.std.proofs.Common.{◌∙◌, subst, Less}
use Rattle.std.specs.List.{AllByRecursion, filter}
use Rattle.std.specs.List.Sorted.{IsStrictlySortedBy}
use Rattle.std.specs.Cmp.Lexicographic.{nat_list_cmp_total}
use Rattle.std.specs.FinSet.{items}
use Rattle.std.proofs.lemmas.List.{length-map}
use Rattle.std.proofs.lemmas.List.Kept.{IsStrictlySortedBy-filter}
use Rattle.cvr_fact_types.specs.Facts.{Facts, text_cmp}
use Rattle.cvr_facts.proofs.Lemmas.{at_head, at_tail}
use Rattle.cvr_facts.proofs.Lemmas.{in_map, from_map}
use Rattle.cvr_facts.proofs.Laws.{text_exact}
use Rattle.cvr_office.specs.declared.any_fact.AnyFact.{AnyFact}
use Rattle.cvr_office.specs.declared.conflict.Conflict.{Conflict}
use Rattle.cvr_office.specs.declared.conflict.ConflictName.{ConflictName}
use Rattle.cvr_office.specs.Names.{name_of, body_of, is_named, names, bodies_under, count_under}
use Rattle.cvr_office.specs.Names.{conflict_of, conflicts, most, greatest_count}
use Rattle.cvr_office.specs.Place.{fact_of, any_cmp}
use Rattle.cvr_office.specs.Plain.{set_of}
use Rattle.cvr_lists.specs.AnyNames.{any_name, has_name}
use Rattle.cvr_lists.specs.NameRuns.{counted_runs, of_several, most_of}
use Rattle.cvr_office.proofs.Laws.{conflict_total, conflict_exact}
use Rattle.cvr_office.proofs.Lemmas.{name_is, in_items, from_items, from_filter, in_filter}
use Rattle.cvr_office.proofs.Lemmas.{bodies_less, keys_in_order-members}
use Rattle.cvr_lists.proofs.NameRuns.{count, run_names, runs_counted, run_names-rise, in_run_names}
use Rattle.cvr_lists.proofs.NameRuns.{from_run_names}

-- ---- names

pub names-is : (xs : List AnyFact) → IsStrictlySortedBy any_cmp xs
    → names (set_of xs) ≡ run_names (counted_runs xs)
names-is xs rises = keys_in_order-members conflict_total conflict_exact
    (map name_of (items (set_of xs))) (run_names (counted_runs xs)) (run_names-rise xs rises)
    (λ n at. let found = from_map any_name n xs (from_run_names xs n at) in
    subst (Contains (map name_of (items (set_of xs)))) found.2
    (in_map name_of (fact_of found.0) (items (set_of xs)) (in_items xs found.0 found.1)))
    (λ n at. let told = from_map name_of n (items (set_of xs)) at in
    let found = from_items xs told.0 told.1 in
    in_run_names xs n (subst (Contains (map any_name xs)) (ap name_of found.2 ∙ told.2)
    (in_map any_name found.0 xs found.1)))

-- ---- bodies

abbrev body : AnyFact → List ℕ
body x = body_of (fact_of x)

-- under one name bodies rise
bodies_above : (n : ConflictName) (x : AnyFact) (xs : List AnyFact) → n ≡ any_name x
    → ((y : AnyFact) → Contains xs y → n ≡ any_name y)
    → AllByRecursion (λ y. any_cmp x y ≡ Less) xs
    → AllByRecursion (λ b. text_cmp (body x) b ≡ Less) (map body xs)
bodies_above n x [] is same above = tt
bodies_above n x (y ∷ xs) is same above = (
  bodies_less (fact_of x) (fact_of y) (sym is ∙ same y (at_head y xs)) above.0,
  bodies_above n x xs is (λ z at. same z (at_tail y z xs at)) above.1,
)

bodies_rise : (n : ConflictName) (xs : List AnyFact)
    → ((y : AnyFact) → Contains xs y → n ≡ any_name y) → IsStrictlySortedBy any_cmp xs
    → IsStrictlySortedBy text_cmp (map body xs)
unfolding IsStrictlySortedBy
bodies_rise n [] same rises = tt
bodies_rise n (x ∷ xs) same rises = (
  bodies_above n x xs (same x (at_head x xs)) (λ y at. same y (at_tail x y xs at)) rises.0,
  bodies_rise n xs (λ y at. same y (at_tail x y xs at)) rises.1,
)

bodies_under-is : (xs : List AnyFact) → IsStrictlySortedBy any_cmp xs → (n : ConflictName)
    → bodies_under (set_of xs) n ≡ map body (filter (has_name n) xs)
bodies_under-is xs rises n = keys_in_order-members nat_list_cmp_total text_exact told mine
    (bodies_rise n (filter (has_name n) xs)
    (λ y at. name_is n (fact_of y) (from_filter (has_name n) xs y at).1)
    (IsStrictlySortedBy-filter any_cmp (has_name n) xs rises))
    there back
  where
    told : List (List ℕ)
    told = map body_of (filter (is_named n) (items (set_of xs)))

    mine : List (List ℕ)
    mine = map body (filter (has_name n) xs)

    there : (b : List ℕ) → Contains mine b → Contains told b
    there b at =
        let found = from_map body b (filter (has_name n) xs) at in
        let had = from_filter (has_name n) xs found.0 found.1 in
        subst (Contains told) found.2 (in_map body_of (fact_of found.0)
        (filter (is_named n) (items (set_of xs)))
        (in_filter (is_named n) (items (set_of xs)) (fact_of found.0)
        (in_items xs found.0 had.0) had.1))

    back : (b : List ℕ) → Contains told b → Contains mine b
    back b at =
        let found = from_map body_of b (filter (is_named n) (items (set_of xs))) at in
        let had = from_filter (is_named n) (items (set_of xs)) found.0 found.1 in
        let one = from_items xs found.0 had.0 in
        subst (Contains mine) (ap body_of one.2 ∙ found.2)
        (in_map body one.0 (filter (has_name n) xs)
        (in_filter (has_name n) xs one.0 one.1 (ap (is_named n) one.2 ∙ had.1)))

count_under-is : (xs : List AnyFact) → IsStrictlySortedBy any_cmp xs → (n : ConflictName)
    → count_under (set_of xs) n ≡ count n xs
count_under-is xs rises n =
    ap length (bodies_under-is xs rises n) ∙ length-map (filter (has_name n) xs) body

-- ---- conflicts

module _ (s : Facts) where
  counted_again : (cs : List Conflict) →
      ((c : Conflict) → Contains cs c → count_under s c.name ≡ c.bodies)
      → map (conflict_of s) (run_names cs) ≡ cs
  counted_again [] h = refl
  counted_again (c ∷ cs) h =
      let same = h c (at_head c cs) in
      let rest = counted_again cs (λ d at. h d (at_tail c d cs at)) in
      λ i. record { name = c.name; bodies = same i } ∷ rest i

  bodies_again : (cs : List Conflict) →
      ((c : Conflict) → Contains cs c → count_under s c.name ≡ c.bodies)
      → map (count_under s) (run_names cs) ≡ map (λ c. c.bodies) cs
  bodies_again [] h = refl
  bodies_again (c ∷ cs) h =
      let same = h c (at_head c cs) in
      let rest = bodies_again cs (λ d at. h d (at_tail c d cs at)) in
      λ i. same i ∷ rest i

pub conflicts-is : (xs : List AnyFact) → IsStrictlySortedBy any_cmp xs
    → conflicts (set_of xs) ≡ of_several (counted_runs xs)
conflicts-is xs rises = ap of_several
    (ap (map (conflict_of (set_of xs))) (names-is xs rises)
    ∙ counted_again (set_of xs) (counted_runs xs)
    (λ c at. count_under-is xs rises c.name ∙ sym (runs_counted xs rises c at)))

pub greatest_count-is : (xs : List AnyFact) → IsStrictlySortedBy any_cmp xs
    → greatest_count (set_of xs) ≡ most_of (counted_runs xs)
greatest_count-is xs rises = ap most
    (ap (map (count_under (set_of xs))) (names-is xs rises)
    ∙ bodies_again (set_of xs) (counted_runs xs)
    (λ c at. count_under-is xs rises c.name ∙ sym (runs_counted xs rises c at)))
