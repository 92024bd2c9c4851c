-- The next name in a plain office's list is that of its next names, in order.
use Rattle.std.proofs.Common.{◌≡◌, ℕ, ◌<◌, ◌≤◌, Bool, true, false, List, length, map, get_or}
use Rattle.std.proofs.Common.{Contains, Option, Some, None, Ordering, Less, Equal, Greater, inl}
use Rattle.std.proofs.Common.{inr, refl, sym, ap, ◌∙◌, subst, arith, true≢false}
use Rattle.std.specs.Prelude.{slice_get}
use Rattle.std.specs.List.{filter_map}
use Rattle.std.specs.List.Sorted.{IsPartitionPoint}
use Rattle.std.specs.Ordering.{is_lt, is_gt, ordering_reverse}
use Rattle.std.specs.Cmp.{IsTotalOrder}
use Rattle.std.specs.FinMap.{IsAntisymmetric}
use Rattle.std.specs.FinSet.{items}
use Rattle.std.proofs.lemmas.Bool.{cases_lt}
use Rattle.std.proofs.lemmas.Option.{get_or_from_slice_get, slice_get_within, none-some}
use Rattle.cvr_fact_types.specs.Facts.{Fact, fact_total, fact_exact}
use Rattle.cvr_facts.specs.Ordered.{keys_in_order}
use Rattle.cvr_facts.proofs.Lemmas.{in_map, from_map, in_set, from_set, ordered_rises}
use Rattle.cvr_facts.proofs.Lemmas.{Contains-filter_map, from-filter_map}
use Rattle.cvr_facts.proofs.Laws.{contains_iff}
use Rattle.cvr_office.specs.declared.any_fact.AnyFact.{AnyFact}
use Rattle.cvr_office.specs.Readers.{next}
use Rattle.cvr_office.specs.Place.{fact_of}
use Rattle.cvr_office.specs.Plain.{set_of}
use Rattle.cvr_office.proofs.InOrder.{in_ordered, from_ordered, keys_in_order-members}
use Rattle.cvr_office.proofs.Firsts.{find_is, IsFirst, is_above, next-find}

-- ---- what the facts of a list are

pub in_items : (xs : List AnyFact) (x : AnyFact) → Contains xs x
    → Contains (items (set_of xs)) (fact_of x)
in_items xs x at = (contains_iff (set_of xs) (fact_of x)).0
    (in_set fact_total fact_exact (map fact_of xs) (fact_of x) (in_map fact_of x xs at))

pub from_items : (xs : List AnyFact) (f : Fact) → Contains (items (set_of xs)) f
    → (x : AnyFact) × Contains xs x × (fact_of x ≡ f)
from_items xs f at = from_map fact_of f xs
    (from_set fact_total fact_exact (map fact_of xs) f ((contains_iff (set_of xs) f).1 at))

module _ {K : Type 0} (kind : Fact → Option K) (xs : List AnyFact) where
  -- what a kind gives of them
  abbrev pub given : List K
  given = filter_map kind (items (set_of xs))

  pub in_given : (x : AnyFact) (k : K) → Contains xs x → kind (fact_of x) ≡ Some k
      → Contains given k
  in_given x k at e =
      Contains-filter_map kind (items (set_of xs)) (fact_of x) k (in_items xs x at) e

  pub from_given : (k : K) → Contains given k
      → (x : AnyFact) × Contains xs x × (kind (fact_of x) ≡ Some k)
  from_given k at =
      let found = from-filter_map kind (items (set_of xs)) k at in
      let x = from_items xs found.0 found.1 in
      (x.0, x.1, ap kind x.2 ∙ found.2)

  -- in order, they are those of the list in order
  pub keys_in_order-given : {R : K → K → Ordering} → IsTotalOrder R → IsAntisymmetric R
      → keys_in_order R given ≡ keys_in_order R (filter_map (λ x. kind (fact_of x)) xs)
  keys_in_order-given {R} t e =
      let of : AnyFact → Option K = λ x. kind (fact_of x) in
      keys_in_order-members t e given (keys_in_order R (filter_map of xs))
      (ordered_rises R (filter_map of xs))
      (λ k at. let found = from-filter_map of xs k (from_ordered t e (filter_map of xs) k at) in
      in_given found.0 k found.1 found.2)
      (λ k at. let found = from_given k at in
      in_ordered t e (filter_map of xs) k (Contains-filter_map of xs found.0 k found.1 found.2))

-- ---- the first behind those that are not above

not_lt : (r s : Ordering) → r ≡ ordering_reverse s → is_gt s ≡ false → is_lt r ≡ false
not_lt r Less e h = ap is_lt e
not_lt r Equal e h = ap is_lt e
not_lt r Greater e h = absurd (true≢false h)

-- a test that facts with no name above the given one pass, and no others of a name
pub record Passes {K : Type 0} (kind : Fact → Option K) (R : K → K → Ordering) (after : Option K)
    (p : AnyFact → Bool) (xs : List AnyFact) : Type 0 where
  pub hidden : (x : AnyFact) (k : K) → kind (fact_of x) ≡ Some k → p x ≡ true
      → is_above R after k ≡ false
  pub shown : (x : AnyFact) (k : K) → kind (fact_of x) ≡ Some k → p x ≡ false
      → is_above R after k ≡ true
  pub up : (i j : ℕ) (d : AnyFact) (k l : K) → i ≤ j → j < length xs
      → kind (fact_of (get_or xs i d)) ≡ Some k → kind (fact_of (get_or xs j d)) ≡ Some l
      → is_gt (R k l) ≡ false
  pub ends : (i j : ℕ) (d : AnyFact) → i ≤ j → j < length xs → p (get_or xs i d) ≡ false
      → kind (fact_of (get_or xs i d)) ≡ None → kind (fact_of (get_or xs j d)) ≡ None

module _ {K : Type 0} {R : K → K → Ordering} (t : IsTotalOrder R) (e : IsAntisymmetric R)
    (kind : Fact → Option K) (after : Option K) (p : AnyFact → Bool) (xs : List AnyFact) (i : ℕ)
    (passes : Passes kind R after p xs)
    (point : IsPartitionPoint (λ x. p x ≡ true) (λ x. p x ≡ false) xs i) where
  -- one that stands before the place is not above
  before : (x : AnyFact) (k : K) (at : Contains xs x) → at.0 < i → kind (fact_of x) ≡ Some k
      → is_above R after k ≡ false
  before x k at lt is =
      passes.hidden x k is (subst (λ y. p y ≡ true) at.2 (point.0 at.0 x (omega arith) lt))

  none_first : length xs ≤ i → IsFirst R (is_above R after) (given kind xs) None
  none_first past = λ k at. let found = from_given kind xs k at in let lt = found.1.1 in
      before found.0 k found.1 (omega (arith, lt, past)) found.2

  module _ (x : AnyFact) (here : slice_get xs i ≡ Some x) where
    at_place : (d : AnyFact) → get_or xs i d ≡ x
    at_place d = get_or_from_slice_get xs i x d here

    within : i < length xs
    within = slice_get_within xs i x here

    fails : p x ≡ false
    fails = subst (λ y. p y ≡ false) (at_place x) (point.1 i x (omega arith) within)

    is_there : Contains xs x
    is_there = (i, within, at_place x)

    no_more : kind (fact_of x) ≡ None → IsFirst R (is_above R after) (given kind xs) None
    no_more none k at =
        let found = from_given kind xs k at in
        let y = found.0 in
        elim (cases_lt found.1.0 i) [
          | inl lt ↦ before y k found.1 lt found.2
          | inr le ↦ absurd (none-some k
              (sym (passes.ends i found.1.0 y le found.1.1
              (subst (λ z. p z ≡ false) (sym (at_place y)) fails)
              (ap (λ z. kind (fact_of z)) (at_place y) ∙ none))
              ∙ (ap (λ z. kind (fact_of z)) found.1.2 ∙ found.2)))
        ]

    least : (k : K) → kind (fact_of x) ≡ Some k → (y : K) → Contains (given kind xs) y
        → is_above R after y ≡ true → is_lt (R y k) ≡ false
    least k is y at above =
        let found = from_given kind xs y at in
        let z = found.0 in
        elim (cases_lt found.1.0 i) [
          | inl lt ↦ absurd (true≢false (sym above ∙ before z y found.1 lt found.2))
          | inr le ↦ not_lt (R y k) (R k y) (t.antisymm y k)
              (passes.up i found.1.0 z k y le found.1.1
              (ap (λ w. kind (fact_of w)) (at_place z) ∙ is)
              (ap (λ w. kind (fact_of w)) found.1.2 ∙ found.2))
        ]

    first_there : (r : Option K) → kind (fact_of x) ≡ r
        → IsFirst R (is_above R after) (given kind xs) r
    first_there None is = no_more is
    first_there (Some k) is = (
      in_given kind xs x k is_there is,
      passes.shown x k is fails,
      least k
          is,
    )

  in_order : (r : Option K) → IsFirst R (is_above R after) (given kind xs) r
      → IsFirst R (is_above R after) (keys_in_order R (given kind xs)) r
  in_order None first = λ k at. first k (from_ordered t e (given kind xs) k at)
  in_order (Some k) (at, ok, low) = (
    in_ordered t e (given kind xs) k at,
    ok,
    λ y in' above.
        low y (from_ordered t e (given kind xs) y in') above,
  )

  next_first : (r : Option K) → IsFirst R (is_above R after) (given kind xs) r
      → r ≡ next R (keys_in_order R (given kind xs)) after
  next_first r first =
      sym (next-find R (keys_in_order R (given kind xs)) after
      ∙ find_is R (is_above R after) (keys_in_order R (given kind xs))
      (ordered_rises R (given kind xs)) r (in_order r first))

  pub next_none : length xs ≤ i → None ≡ next R (keys_in_order R (given kind xs)) after
  next_none past = next_first None (none_first past)

  pub next_some : (x : AnyFact) → slice_get xs i ≡ Some x
      → kind (fact_of x) ≡ next R (keys_in_order R (given kind xs)) after
  next_some x here = next_first (kind (fact_of x)) (first_there x here (kind (fact_of x)) refl)
