-- Each record whose current snapshot has a contest stands in exactly one of its rows.
use Rattle.std.proofs.Common.{◌≡◌, ◌==◌, ℕ, Bool, true, false, cond, ◌&&◌, List, [], ◌∷◌}
use Rattle.std.proofs.Common.{length, map, Contains, Option, Some, None, is_some, Ordering, Less}
use Rattle.std.proofs.Common.{Equal, inl, inr, refl, sym, ap, ◌∙◌, subst, arith, ne_eqb, eq-eqb}
use Rattle.std.proofs.Common.{true≢false}
use Rattle.std.specs.List.{filter, find, count_by}
use Rattle.std.specs.List.Sorted.{IsStrictlySortedBy}
use Rattle.std.specs.Cmp.{IsTotalOrder, Equal-is, tied_itself}
use Rattle.std.specs.Cmp.Lexicographic.{nat_list_cmp_total, options_total}
use Rattle.std.specs.FinMap as map_of
use Rattle.std.specs.FinMap.{IsAntisymmetric, entries, entries_sorted}
use Rattle.std.specs.FinMap.{contains_key-keys}
use Rattle.std.specs.Option.{option_map_or}
use Rattle.std.specs.Ordering.{is_eq, nat_cmp, eq_by_cmp, ordering_then}
use Rattle.std.proofs.lemmas.Bool.{eqb-true, and_parts, false_from_ne_true}
use Rattle.std.proofs.lemmas.Cmp.{nat_cmp_total}
use Rattle.std.proofs.lemmas.List.Elements.{All-contains, All-from_recursion}
use Rattle.std.proofs.lemmas.List.Kept.{IsStrictlySortedBy-filter}
use Rattle.std.proofs.lemmas.List.Sums.{sum_by-cons}
use Rattle.std.proofs.lemmas.Map.Keys.{sorted_head, sorted_tail}
use Rattle.std.proofs.lemmas.Map.Views.{Contains-from_any}
use Rattle.cdf_definition.specs.Frame.{Frame}
use Rattle.cvr_fact_types.specs.declared.name.RecordName.{RecordName}
use Rattle.cvr_fact_types.specs.Facts.{Facts, Snapshot}
use Rattle.cvr_facts.specs.Choosing.{header, current, header_bodies, snapshot_bodies}
use Rattle.cvr_facts.proofs.Laws.{text_total, text_exact, choice_total, Contains-header_bodies}
use Rattle.cvr_facts.proofs.Laws.{Contains-snapshot_bodies}
use Rattle.cdf_definition.proofs.Lemmas.{keys_rise}
use Rattle.cvr_facts.proofs.Lemmas.{greatest_is, is_greatest, has_greatest, none_listed, at_head}
use Rattle.cvr_facts.proofs.Lemmas.{at_tail, head_or_tail, in_map}
use Rattle.cvr_tally.specs.declared.key.RowKey.{RowKey}
use Rattle.cvr_tally.specs.Keys.{part_cmp, key_cmp, keys_total, keys_exact}
use Rattle.cvr_tally.specs.Rows.{Rows}
use Rattle.cvr_office.specs.Names.{records}
use Rattle.cvr_office.specs.CanHold.{CanHold}
use Rattle.cvr_office.specs.Tallied.{unit_of, batch_of, is_headed, sums_of_body, sums_at, stands_in}
use Rattle.cvr_office.specs.Tallied.{row, row_of, rows}
use Rattle.cvr_office.proofs.RecordMembers.{from_filter, in_filter}
use Rattle.cvr_office.proofs.RowsOfKeys.{rows_law}

-- what an item counts for
abbrev pub weight : Bool → ℕ
weight b = cond b 1 0

-- ---- lists in order

module _ {K : Type 0} {R : K → K → Ordering} (t : IsTotalOrder R) (e : IsAntisymmetric R) where
  not_later : (x j : K) (ks : List K) → IsStrictlySortedBy R (x ∷ ks) → Contains ks j → j ≡ x → ⊥
  not_later x j ks rises at is =
      let less : R x j ≡ Less = All-contains (λ y. R x y ≡ Less) ks j
      (All-from_recursion (λ y. R x y ≡ Less) ks (sorted_head R x ks rises)) at in
      let clash : Less ≡ Equal = sym less ∙ (ap (R x) is ∙ tied_itself t x) in
      Prim.cc clash

  module _ (p : K → Bool) where
    none_passes : (ks : List K) → ((k : K) → Contains ks k → p k ≡ true → ⊥) → count_by p ks ≡ 0
    none_passes [] never = refl
    none_passes (k ∷ ks) never =
        let first : weight (p k) ≡ 0 =
        ap weight (false_from_ne_true (p k) (never k (at_head k ks))) in
        omega (
          arith,
          sum_by-cons (λ k. weight (p k)) k ks,
          first,
          none_passes ks
              (λ j at. never j (at_tail k j ks at)),
        )

    -- where only this key passes, the count is 1
    one_passes : (ks : List K) → IsStrictlySortedBy R ks → (k : K)
        → ((j : K) → Contains ks j → p j ≡ true → j ≡ k) → Contains ks k → p k ≡ true
        → count_by p ks ≡ 1
    one_passes [] rises k only at is = absurd (none_listed k at)
    one_passes (x ∷ ks) rises k only at is =
        elim (head_or_tail x k ks at) [
          | inl here ↦
              let first : weight (p x) ≡ 1 = ap weight (ap p here ∙ is) in
              let rest = none_passes ks
              (λ j a passes. not_later x j ks rises a
              (only j (at_tail x j ks a) passes ∙ sym here)) in
              omega (arith, sum_by-cons (λ k. weight (p k)) x ks, first, rest)
          | inr later ↦
              let first : weight (p x) ≡ 0 = ap weight
              (false_from_ne_true (p x) (λ passes.
              not_later x k ks rises later (sym (only x (at_head x ks) passes)))) in
              let rest = one_passes ks (sorted_tail R x ks rises) k
              (λ j a. only j (at_tail x j ks a)) later is in
              omega (arith, sum_by-cons (λ k. weight (p k)) x ks, first, rest)
        ]

  -- ---- entries of a map

  module _ {X : Type 0} where
    pub found_at : (es : List (K × X)) → IsStrictlySortedBy R (map (λ x. x.0) es) → (x : K × X)
        → Contains es x → map_of.find R x.0 es ≡ Some x.1
    found_at [] rises x at = absurd (none_listed x at)
    found_at (y ∷ es) rises x at =
        elim (head_or_tail y x es at) [
          | inl is ↦ subst (λ (z : K × X). map_of.find R z.0 (y ∷ es) ≡ Some z.1) is
              (ap (λ b. cond b (Some y.1) (map_of.find R y.0 es))
              ((Equal-is (R y.0 y.0)).1 (tied_itself t y.0)))
          | inr later ↦
              let apart : eq_by_cmp R x.0 y.0 ≡ false =
              false_from_ne_true (eq_by_cmp R x.0 y.0) (λ tie.
              not_later y.0 x.0 (map (λ x. x.0) es) rises (in_map (λ (x : K × X). x.0) x es later)
              (e x.0 y.0 ((Equal-is (R x.0 y.0)).0 tie)))
              in
              ap (λ b. cond b (Some y.1) (map_of.find R x.0 es)) apart
              ∙ found_at es (sorted_tail R y.0 (map (λ x. x.0) es) rises) x later
        ]

-- ---- the rows of a contest

module _ (frame : Frame) (s : Facts) (c : ℕ) where
  abbrev table : Rows
  table = rows frame.contests s

  abbrev pub rising : IsStrictlySortedBy key_cmp (map_of.keys table)
  rising = keys_rise key_cmp (entries table) (entries_sorted table)

  -- the keys of the contest
  abbrev pub keys : List RowKey
  keys = filter (λ q. q.contest == c) (map_of.keys table)

  abbrev standing : RowKey → ℕ
  standing q = length (filter (stands_in frame.contests s q) (records s))

  abbrev pub has : RecordName → Bool
  has r = is_some (sums_at frame.contests s c r)

  -- ---- one record

  current_there : (o : Option (List ℕ))
      → is_some (find (λ v. v.contest == c) (option_map_or (sums_of_body frame.contests) o []))
      ≡ true → (body : List ℕ) × (o ≡ Some body)
  current_there None e = Prim.cc e
  current_there (Some body) e = (body, refl)

  -- a record with the contest has a header
  headed : CanHold frame s → (r : RecordName) → has r ≡ true
      → (head : List ℕ) × (header s r ≡ Some head)
  headed can_hold r is =
      let body = current_there (current s r) is in
      let listed = (greatest_is choice_total (snapshot_bodies s r) body.0 body.1).listed in
      let fact = (Contains-snapshot_bodies s r body.0).0 listed in
      let head = (can_hold.whole (Snapshot r.device r.unique fact.0 body.0) fact.1).header in
      let at = (Contains-header_bodies s r head.0).1 head.1 in
      let top = has_greatest text_total (header_bodies s r)
      (λ none. none_listed head.0 (subst (λ bs. Contains bs head.0) none at)) in
      (top.0, is_greatest text_total text_exact (header_bodies s r) top.0 top.1)

  module _ (r : RecordName) (head : List ℕ) (h : header s r ≡ Some head) where
    -- the key of its row
    abbrev own : RowKey
    own = record { contest = c; unit = unit_of head; batch = batch_of head }

    own_headed : is_headed own (header s r) ≡ true
    own_headed =
        let unit = (Equal-is (part_cmp (unit_of head) (unit_of head))).1
        (tied_itself (options_total nat_list_cmp_total) (unit_of head)) in
        let batch = (Equal-is (part_cmp (batch_of head) (batch_of head))).1
        (tied_itself (options_total nat_list_cmp_total) (batch_of head)) in
        ap (is_headed own) h ∙ (λ i. unit i && batch i)

    own_stands : has r ≡ true → stands_in frame.contests s own r ≡ true
    own_stands is = λ i. own_headed i && is i

    own_listed : Contains (records s) r → has r ≡ true → Contains keys own
    own_listed at is =
        let one = in_filter (stands_in frame.contests s own) (records s) r at (own_stands is) in
        let some : is_some (row frame.contests s own) ≡ true =
        ap (λ b. is_some (cond b None (Some
        (row_of frame.contests s c (filter (stands_in frame.contests s own) (records s))))))
        (ne_eqb (standing own) 0 (λ none. omega (arith, one.1, none)))
        in
        let any = sym (contains_key-keys table own)
        ∙ (ap is_some (rows_law frame.contests s own) ∙ some) in
        in_filter (λ (q : RowKey). q.contest == c) (map_of.keys table) own
        (Contains-from_any (λ x y tie. keys_exact x y ((Equal-is (key_cmp x y)).0 tie)) own
        (map_of.keys table) any) (eq-eqb c c refl)

    own_only : (q : RowKey) → Contains keys q → stands_in frame.contests s q r ≡ true → q ≡ own
    own_only q at stands =
        let contest = eqb-true q.contest c
        (from_filter (λ (q : RowKey). q.contest == c) (map_of.keys table) q at).1 in
        let parts = and_parts (is_headed q (header s r))
        (is_some (sums_at frame.contests s q.contest r)) stands in
        let ties = and_parts (is_eq (part_cmp q.unit (unit_of head)))
        (is_eq (part_cmp q.batch (batch_of head))) (ap (is_headed q) (sym h) ∙ parts.0) in
        let first : nat_cmp q.contest c ≡ Equal =
        ap (λ n. nat_cmp n c) contest ∙ tied_itself nat_cmp_total c in
        let unit = (Equal-is (part_cmp q.unit (unit_of head))).0 ties.0 in
        let batch = (Equal-is (part_cmp q.batch (batch_of head))).0 ties.1 in
        keys_exact q own (λ i. ordering_then (first i) (ordering_then (unit i) (batch i)))

  pub each_record : CanHold frame s → (r : RecordName) → Contains (records s) r
      → count_by (λ q. stands_in frame.contests s q r) keys ≡ weight (has r)
  each_record can_hold r at =
      elim (has r) as (λ b. has r ≡ b → count_by (λ q. stands_in frame.contests s q r) keys
      ≡ weight b) [
        | true ↦ λ is.
            let head = headed can_hold r is in
            one_passes keys_total keys_exact (λ q. stands_in frame.contests s q r) keys
            (IsStrictlySortedBy-filter key_cmp (λ q. q.contest == c) (map_of.keys table) rising)
            (own r head.0 head.1) (own_only r head.0 head.1) (own_listed r head.0 head.1 at is)
            (own_stands r head.0 head.1 is)
        | false ↦ λ is.
            none_passes keys_total keys_exact (λ q. stands_in frame.contests s q r) keys
            (λ q a stands.
            let contest = eqb-true q.contest c
            (from_filter (λ (q : RowKey). q.contest == c) (map_of.keys table) q a).1 in
            let had = (and_parts (is_headed q (header s r))
            (is_some (sums_at frame.contests s q.contest r)) stands).1 in
            true≢false (sym had ∙ (ap (λ k. is_some (sums_at frame.contests s k r)) contest ∙ is)))
      ] refl
