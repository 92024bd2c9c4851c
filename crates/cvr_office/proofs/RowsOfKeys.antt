-- The map of all rows has each row under its key, and nothing else.
use Rattle.std.proofs.Common.{◌≡◌, ◌==◌, ℕ, Bool, true, false, cond, ◌&&◌, ◌||◌, List, [], ◌∷◌, map}
use Rattle.std.proofs.Common.{Contains, Option, Some, None, is_some, Ordering}
use Rattle.std.proofs.Common.{refl, sym, ap, ◌∙◌, subst, arith, eq-eqb, true≢false}
use Rattle.std.specs.Prelude.{option_map}
use Rattle.std.specs.List.{filter, filter_map, cons_option, flat_map, find, list_any}
use Rattle.std.specs.Cmp.{IsTotalOrder, Equal-is, both_ways, eq_by_cmp_equiv, tied_itself}
use Rattle.std.specs.FinMap as map_of
use Rattle.std.specs.FinMap.{get, get-from_entries, IsAntisymmetric, nat_cmp-IsAntisymmetric}
use Rattle.std.specs.Option.{option_map_or}
use Rattle.std.specs.Ordering.{is_eq, eq_by_cmp, nat_cmp, ordering_then}
use Rattle.std.proofs.lemmas.Bool.{eqb-true, and_parts}
use Rattle.std.proofs.lemmas.Cmp.{nat_cmp_total}
use Rattle.std.proofs.lemmas.Map.Views.{list_any-from_Contains}
use Rattle.cdf_parts.specs.Places.{Contest}
use Rattle.cvr_fact_types.specs.declared.name.RecordName.{RecordName}
use Rattle.cvr_fact_types.specs.declared.sums.VoteSums.{VoteSums}
use Rattle.cvr_fact_types.specs.Facts.{Facts}
use Rattle.cvr_facts.specs.Choosing.{header, current}
use Rattle.cvr_facts.proofs.Lemmas.{in_map, in_flat, one_listed}
use Rattle.cvr_tally.specs.declared.key.RowKey.{RowKey}
use Rattle.cvr_tally.specs.Keys.{part_cmp, is_key, keys_total, keys_exact}
use Rattle.cvr_tally.proofs.Lemmas.{is_key-same}
use Rattle.cvr_office.specs.Names.{records}
use Rattle.cvr_office.specs.Tallied.{unit_of, batch_of, is_headed, sums_of_body, sums_at, stands_in}
use Rattle.cvr_office.specs.Tallied.{row, keys_at}
use Rattle.cvr_office.specs.Adding.{added_sums, key_for, sums_for}
use Rattle.cvr_office.specs.Laws.{RowsLaw, BallotsLaw}
use Rattle.cvr_office.proofs.RowSteps.{found, row_stands}
use Rattle.cvr_office.proofs.RecordMembers.{from_filter}

-- ---- a map of some keys

module _ {K X : Type 0} {R : K → K → Ordering} (t : IsTotalOrder R) (e : IsAntisymmetric R)
    (f : K → Option X) where
  -- the entry of a key that has a value
  abbrev entry : K → Option (K × X)
  entry k = option_map (λ x. (k, x)) (f k)

  at_key : (k q : K) (es : List (K × X)) (o : Option X) → f k ≡ o
      → map_of.find R q (cons_option (option_map (λ x. (k, x)) o) es)
      ≡ cond (eq_by_cmp R q k && is_some o) (f k) (map_of.find R q es)
  at_key k q es None is = elim (eq_by_cmp R q k) as
      (λ b. map_of.find R q es ≡ cond (b && false) (f k) (map_of.find R q es))
      [ true ↦ refl | false ↦ refl ]
  at_key k q es (Some x) is = elim (eq_by_cmp R q k) as
      (λ b. cond b (Some x) (map_of.find R q es) ≡ cond (b && true) (f k) (map_of.find R q es))
      [ true ↦ sym is | false ↦ refl ]

  -- the value of a key that is listed
  find_listed : (ks : List K) (q : K) (x : X) → f q ≡ Some x → list_any (eq_by_cmp R q) ks ≡ true
      → map_of.find R q (filter_map entry ks) ≡ Some x
  find_listed [] q x is any = absurd (true≢false (sym any))
  find_listed (k ∷ ks) q x is any =
      at_key k q (filter_map entry ks) (f k) refl
      ∙ elim (eq_by_cmp R q k) as (λ b. eq_by_cmp R q k ≡ b
      → (b || list_any (eq_by_cmp R q) ks) ≡ true
      → cond (b && is_some (f k)) (f k) (map_of.find R q (filter_map entry ks)) ≡ Some x) [
        | true ↦ λ tie any.
            let here : f k ≡ Some x = ap f (sym (e q k ((Equal-is (R q k)).0 tie))) ∙ is in
            ap (λ o. cond (is_some o) o (map_of.find R q (filter_map entry ks))) here
        | false ↦ λ apart any. find_listed ks q x is any
      ] refl any

  -- a key without a value has none
  find_none : (ks : List K) (q : K) → f q ≡ None → map_of.find R q (filter_map entry ks) ≡ None
  find_none [] q is = refl
  find_none (k ∷ ks) q is =
      at_key k q (filter_map entry ks) (f k) refl
      ∙ elim (eq_by_cmp R q k) as (λ b. eq_by_cmp R q k ≡ b
      → cond (b && is_some (f k)) (f k) (map_of.find R q (filter_map entry ks)) ≡ None) [
        | true ↦ λ tie.
            let here : f k ≡ None = ap f (sym (e q k ((Equal-is (R q k)).0 tie))) ∙ is in
            ap (λ o. cond (is_some o) o (map_of.find R q (filter_map entry ks))) here
            ∙ find_none ks q is
        | false ↦ λ apart. find_none ks q is
      ] refl

  get_of : (ks : List K) (q : K) (o : Option X) → f q ≡ o → (is_some o ≡ true → Contains ks q)
      → get (map_of.from_entries {R = R} (filter_map entry ks)) q ≡ o
  get_of ks q None is listed = get-from_entries t (filter_map entry ks) q ∙ find_none ks q is
  get_of ks q (Some x) is listed = get-from_entries t (filter_map entry ks) q
      ∙ find_listed ks q x is (list_any-from_Contains (eq_by_cmp_equiv t) q ks (listed refl))

  -- a map of the keys of a list, in which each key with a value stands, has the value of each key
  pub get-of_keys : (ks : List K) → ((q : K) → is_some (f q) ≡ true → Contains ks q) → (q : K)
      → get (map_of.from_entries {R = R} (filter_map entry ks)) q ≡ f q
  get-of_keys ks listed q = get_of ks q (f q) refl (listed q)

-- ---- the key of a record's sums

then_is : (a b : Ordering) → is_eq (ordering_then a b) ≡ (is_eq a && is_eq b)
then_is a b = grind arith

nat_tie : (m n : ℕ) → is_eq (nat_cmp m n) ≡ (n == m)
nat_tie m n =
    both_ways (is_eq (nat_cmp m n)) (n == m)
    (λ e. eq-eqb n m (sym (nat_cmp-IsAntisymmetric m n ((Equal-is (nat_cmp m n)).0 e))))
    (λ e. let same : m ≡ n = sym (eqb-true n m e) in (Equal-is (nat_cmp m n)).1
    (ap (nat_cmp m) (sym same) ∙ tied_itself nat_cmp_total m))

and_comm : (a b : Bool) → (a && b) ≡ (b && a)
and_comm a b = grind arith

find_and : {X : Type 0} (p : X → Bool) (b : Bool) (xs : List X)
    → find (λ x. b && p x) xs ≡ cond b (find p xs) None
find_and p true xs = refl
find_and p false [] = refl
find_and p false (x ∷ xs) = find_and p false xs

module _ (contests : List Contest) (s : Facts) where
  module _ (q : RowKey) (unit batch : Option (List ℕ)) where
    abbrev same_parts : Bool
    same_parts = is_eq (part_cmp q.unit unit) && is_eq (part_cmp q.batch batch)

    key_is : (v : VoteSums) → is_key q (key_for unit batch v)
        ≡ (same_parts && (v.contest == q.contest))
    key_is v =
        then_is (nat_cmp q.contest v.contest)
        (ordering_then (part_cmp q.unit unit) (part_cmp q.batch batch))
        ∙ (ap (λ b. is_eq (nat_cmp q.contest v.contest) && b)
        (then_is (part_cmp q.unit unit) (part_cmp q.batch batch))
        ∙ (ap (λ b. b && same_parts) (nat_tie q.contest v.contest)
        ∙ and_comm (v.contest == q.contest) same_parts))

    sums_for_is : (votes : List VoteSums)
        → sums_for unit batch q votes ≡ cond same_parts (find (λ v. v.contest == q.contest) votes)
        None
    sums_for_is votes = (λ i. find (λ v. key_is v i) votes)
        ∙ find_and (λ v. v.contest == q.contest) same_parts votes

  -- what a record adds is of its greatest header and its current snapshot
  pub added_is : (q : RowKey) (r : RecordName) (head body : List ℕ) → header s r ≡ Some head
      → current s r ≡ Some body
      → added_sums contests s q r ≡ sums_for (unit_of head) (batch_of head) q
      (sums_of_body contests body)
  added_is q r head body h c =
      ap (λ o. cond (is_headed q o) (sums_at contests s q.contest r) None) h
      ∙ (ap (λ o. cond (is_headed q (Some head))
      (find (λ v. v.contest == q.contest) (option_map_or (sums_of_body contests) o [])) None) c
      ∙ sym (sums_for_is q (unit_of head) (batch_of head) (sums_of_body contests body)))

  pub added_sums-no_header : (q : RowKey) (r : RecordName) → header s r ≡ None
      → added_sums contests s q r ≡ None
  added_sums-no_header q r h =
      ap (λ o. cond (is_headed q o) (sums_at contests s q.contest r) None) h

  pub added_sums-no_current : (q : RowKey) (r : RecordName) → current s r ≡ None
      → added_sums contests s q r ≡ None
  added_sums-no_current q r c =
      ap (λ o. cond (is_headed q (header s r))
      (find (λ v. v.contest == q.contest) (option_map_or (sums_of_body contests) o [])) None) c
      ∙ elim (is_headed q (header s r)) as (λ b. ◌≡◌ {A = Option VoteSums} (cond b None None) None)
      [ true ↦ refl | false ↦ refl ]

  -- ---- where a row stands, its key is one of a record's

  there : {X : Type 0} (o : Option X) → is_some o ≡ true → (x : X) × (o ≡ Some x)
  there None e = Prim.cc e
  there (Some x) e = (x, refl)

  head_there : (q : RowKey) (o : Option (List ℕ)) → is_headed q o ≡ true
      → (head : List ℕ) × (o ≡ Some head)
  head_there q None e = Prim.cc e
  head_there q (Some head) e = (head, refl)

  current_there : (c : ℕ) (o : Option (List ℕ))
      → is_some (find (λ v. v.contest == c) (option_map_or (sums_of_body contests) o [])) ≡ true
      → (body : List ℕ) × (o ≡ Some body)
  current_there c None e = Prim.cc e
  current_there c (Some body) e = (body, refl)

  key_listed : (q : RowKey) (r : RecordName) → stands_in contests s q r ≡ true
      → Contains (keys_at contests s r) q
  key_listed q r stands =
      let parts =
      and_parts (is_headed q (header s r)) (is_some (sums_at contests s q.contest r)) stands in
      let h = head_there q (header s r) parts.0 in
      let c = current_there q.contest (current s r) parts.1 in
      let unit = unit_of h.0 in
      let batch = batch_of h.0 in
      let votes = sums_of_body contests c.0 in
      let adds : is_some (added_sums contests s q r) ≡ true =
      ap is_some (ap (λ b. cond b (sums_at contests s q.contest r) None) parts.0) ∙ parts.1 in
      let some = there (sums_for unit batch q votes)
      (ap is_some (sym (added_is q r h.0 c.0 h.1 c.1)) ∙ adds) in
      let at = found (λ v. is_key q (key_for unit batch v)) votes some.0 some.1 in
      let listed : Contains (map (key_for unit batch) votes) q = subst
      (Contains (map (key_for unit batch) votes))
      (sym (is_key-same q (key_for unit batch some.0) at.1))
      (in_map (key_for unit batch) some.0 votes at.0) in
      subst (λ o. Contains (option_map_or
      (λ head. map (key_for (unit_of head) (batch_of head))
      (option_map_or (sums_of_body contests) (current s r) [])) o []) q) (sym h.1)
      (subst (λ o. Contains (map (key_for unit batch) (option_map_or (sums_of_body contests) o []))
      q) (sym c.1) listed)

  all_listed : (q : RowKey) → is_some (row contests s q) ≡ true
      → Contains (flat_map (keys_at contests s) (records s)) q
  all_listed q e =
      let r = there (row contests s q) e in
      let some = row_stands contests s q (records s) r.0 r.1 in
      let ballots = some.0 in
      let positive = some.1 in
      let one = one_listed (filter (stands_in contests s q) (records s))
      (omega (arith, ballots, positive)) in
      let at = from_filter (stands_in contests s q) (records s) one.0 one.1 in
      in_flat (keys_at contests s) one.0 q (records s) at.0 (key_listed q one.0 at.1)

pub rows_law : RowsLaw
rows_law contests s q = get-of_keys keys_total keys_exact (row contests s)
    (flat_map (keys_at contests s) (records s)) (all_listed contests s) q

pub ballots_law : BallotsLaw
ballots_law contests s q r is = row_stands contests s q (records s) r is
