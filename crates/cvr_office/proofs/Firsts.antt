-- The first of members in order that passes a test.
use Rattle.std.proofs.Common.{◌≡◌, Bool, true, false, cond, List, [], ◌∷◌, Contains, Option, Some}
use Rattle.std.proofs.Common.{None, Ordering, Less, inl, inr, refl, sym, ap, ◌∙◌, true≢false}
use Rattle.std.specs.List.{find}
use Rattle.std.specs.List.Sorted.{IsStrictlySortedBy}
use Rattle.std.specs.Option.{option_cmp}
use Rattle.std.specs.Ordering.{is_lt, is_gt}
use Rattle.std.proofs.lemmas.List.Elements.{All-contains, All-from_recursion}
use Rattle.std.proofs.lemmas.Map.Keys.{sorted_head, sorted_tail}
use Rattle.cvr_facts.proofs.Lemmas.{none_listed, at_head, at_tail, head_or_tail}
use Rattle.cvr_office.specs.Readers.{next}

-- ---- the first that passes

-- the head of a rising list is below the others
pub each_above : {K : Type 0} (R : K → K → Ordering) (x : K) (ks : List K) (k : K)
    → IsStrictlySortedBy R (x ∷ ks) → Contains ks k → R x k ≡ Less
each_above R x ks k h at = All-contains (λ y. R x y ≡ Less) ks k
    (All-from_recursion (λ y. R x y ≡ Less) ks (sorted_head R x ks h)) at

module _ {K : Type 0} (R : K → K → Ordering) (p : K → Bool) where
  -- a member that passes, and none that passes is below it; or none passes
  abbrev pub IsFirst : List K → Option K → Type 0
  IsFirst ks None = (k : K) → Contains ks k → p k ≡ false
  IsFirst ks (Some k) =
      Contains ks k × (p k ≡ true) × ((y : K) → Contains ks y → p y ≡ true → is_lt (R y k) ≡ false)

  first_here : (x : K) (ks : List K) → IsStrictlySortedBy R (x ∷ ks) → p x ≡ true → (r : Option K)
      → IsFirst (x ∷ ks) r → Some x ≡ r
  first_here x ks h passes None none = absurd (true≢false (sym passes ∙ none x (at_head x ks)))
  first_here x ks h passes (Some k) (at, ok, least) =
      elim (head_or_tail x k ks at) [
        | inl is ↦ ap Some is
        | inr later ↦ absurd (true≢false
            (sym (ap is_lt (each_above R x ks k h later)) ∙ least x (at_head x ks) passes))
      ]

  first_later : (x : K) (ks : List K) → p x ≡ false → (r : Option K) → IsFirst (x ∷ ks) r
      → IsFirst ks r
  first_later x ks fails None none = λ k at. none k (at_tail x k ks at)
  first_later x ks fails (Some k) (at, ok, least) = (
    elim (head_or_tail x k ks at) [
      | inl is ↦ absurd (true≢false (sym ok ∙ (ap p (sym is) ∙ fails)))
      | inr later ↦ later
    ],
    ok,
    λ y in' good. least y (at_tail x y ks in') good,
  )

  pub find_is : (ks : List K) → IsStrictlySortedBy R ks → (r : Option K) → IsFirst ks r
      → find p ks ≡ r
  find_is [] h None first = refl
  find_is [] h (Some k) first = absurd (none_listed k first.0)
  find_is (x ∷ ks) h r first =
      elim (p x) as (λ b. p x ≡ b → cond b (Some x) (find p ks) ≡ r) [
        | true ↦ λ passes. first_here x ks h passes r first
        | false ↦ λ fails. find_is ks (sorted_tail R x ks h) r (first_later x ks fails r first)
      ] refl

-- above a given one, or any where none is given
abbrev pub is_above : {K : Type 0} → (K → K → Ordering) → Option K → K → Bool
is_above R after k = is_gt (option_cmp R (Some k) after)

pub next-find : {K : Type 0} (R : K → K → Ordering) (ks : List K) (after : Option K)
    → next R ks after ≡ find (is_above R after) ks
next-find R ks None = refl
next-find R ks (Some key) = refl
