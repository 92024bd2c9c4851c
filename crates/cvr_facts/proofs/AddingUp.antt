-- The votes of a contest's selections and the unassigned ones are those of all its counting
-- positions.
use Rattle.std.proofs.Common.{◌≡◌, ◌<◌, ◌≤◌, ◌+◌, ℕ, zero, suc, List, [], ◌∷◌, map, Bool, true}
use Rattle.std.proofs.Common.{false, cond, Contains, Some, None, length, get_or, refl, subst, arith}
use Rattle.std.specs.Prelude.{◌==◌, nat_lt, is_none}
use Rattle.std.specs.List.{filter, range_with_len, sum, sum_by}
use Rattle.std.specs.Option.{option_map_or}
use Rattle.std.proofs.lemmas.Bool.Decides.{nat_tests}
use Rattle.std.proofs.lemmas.List.FromFn.{sum_by-map-range_with_len_more}
use Rattle.std.proofs.lemmas.List.Sums.{sum_by-cons, sum_by-le}
use Rattle.cdf_types.specs.declared.report.SelectionVote.{SelectionVote}
use Rattle.cdf_parts.specs.Places.{selections_at}
use Rattle.cvr_facts.specs.Sums.{counts, votes_of, names_place, names_none}
use Rattle.cvr_facts.specs.SumLaws.{VotesLaw}
use Rattle.cvr_facts.proofs.Members.{at_head, at_tail}

module _ (f : SelectionVote → ℕ) where
  -- what is added up over those that pass, with one more
  one_more : (p : SelectionVote → Bool) (x : SelectionVote) (xs : List SelectionVote)
      → sum_by f (filter p (x ∷ xs)) ≡ cond (p x) (f x) 0 + sum_by f (filter p xs)
  one_more p x xs =
      elim (p x) as (λ b. sum_by f (cond b (x ∷ filter p xs) (filter p xs))
      ≡ cond b (f x) 0 + sum_by f (filter p xs)) [
        | true ↦ sum_by-cons f x (filter p xs)
        | false ↦ omega arith
      ]

  -- a sum of numbers that are larger at those that pass
  larger : (g h : SelectionVote → ℕ) (p : SelectionVote → Bool) (xs : List SelectionVote)
      → ((x : SelectionVote) → Contains xs x → g x ≡ h x + cond (p x) (f x) 0)
      → sum_by g xs ≡ sum_by h xs + sum_by f (filter p xs)
  larger g h p [] each = refl
  larger g h p (x ∷ xs) each =
      let rest = larger g h p xs (λ y at. each y (at_tail x y xs at)) in
      omega (
        arith,
        sum_by-cons g x xs,
        sum_by-cons h x xs,
        one_more p x xs,
        each x (at_head x xs),
        rest,
      )

  -- what is added up of one that names a selection at one of the first n places
  abbrev before : ℕ → SelectionVote → ℕ
  before n x = cond (option_map_or (λ i. nat_lt i n) x.selection false) (f x) 0

  before_none : (x : SelectionVote) → before 0 x ≤ 0
  before_none x =
      elim x.selection as (λ o. cond (option_map_or (λ i. nat_lt i 0) o false) (f x) 0 ≤ 0)
      [ None ↦ omega arith | Some i ↦ grind (arith, nat_tests) ]

  before_next : (n : ℕ) (x : SelectionVote)
      → before (n + 1) x ≡ before n x + cond (names_place n x) (f x) 0
  before_next n x =
      elim x.selection as (λ o. cond (option_map_or (λ i. nat_lt i (n + 1)) o false) (f x) 0
      ≡ cond (option_map_or (λ i. nat_lt i n) o false) (f x) 0
      + cond (option_map_or (λ i. i == n) o false) (f x) 0)
      [ None ↦ refl | Some i ↦ grind (arith, nat_tests) ]

  before_all : (n : ℕ) (x : SelectionVote) → ((i : ℕ) → x.selection ≡ Some i → i < n)
      → f x ≡ before n x + cond (names_none x) (f x) 0
  before_all n x within =
      elim x.selection as (λ o. ((i : ℕ) → o ≡ Some i → i < n)
      → f x ≡ cond (option_map_or (λ i. nat_lt i n) o false) (f x) 0 + cond (is_none o) (f x) 0) [
        | None ↦ λ _. omega arith
        | Some i ↦ λ few. let less = few i refl in grind (arith, nat_tests, less)
      ] within

  -- those of the first n places, place by place
  by_places : (n : ℕ) (xs : List SelectionVote)
      → sum (map (λ place. sum_by f (filter (names_place place) xs)) (range_with_len 0 n))
      ≡ sum_by (before n) xs
  by_places zero xs =
      omega (arith, sum_by-le (before 0) 0 xs (λ k d less. before_none (get_or xs k d)))
  by_places (suc n) xs =
      let next : sum (map (λ place. sum_by f (filter (names_place place) xs))
      (range_with_len 0 (n + 1))) ≡ sum_by (before (n + 1)) xs = omega (
        arith,
        by_places n xs,
        larger (before (n + 1)) (before n) (names_place n) xs (λ x _. before_next n x),
        sum_by-map-range_with_len_more (λ m. m) (λ place. sum_by f (filter (names_place place) xs))
            0 n n (omega arith),
      ) in
      let is : n + 1 ≡ suc n = omega arith in
      subst (λ m. sum (map (λ place. sum_by f (filter (names_place place) xs)) (range_with_len 0 m))
      ≡ sum_by (before m) xs) is next

pub votes_add_up : VotesLaw
votes_add_up contests vote h =
    let n = length (selections_at contests vote.contest) in
    let whole = larger (votes_of counts) (votes_of counts) (before (votes_of counts) n) names_none
    vote.selections (λ x at. before_all (votes_of counts) n x (h.selections x at).place) in
    omega (arith, by_places (votes_of counts) n vote.selections, whole)
