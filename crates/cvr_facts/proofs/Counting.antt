-- The votes of each selection, as they are counted.
use Rattle.std.proofs.Common.{◌≡◌, ◌<◌, ◌+◌, ℕ, List, [], ◌∷◌, Some, None, Bool, true, false, cond}
use Rattle.std.proofs.Common.{refl, sym, ap, subst, ◌∙◌, length, map, take, get_or, set}
use Rattle.std.proofs.Common.{arith, zero-add, add-zero, length-set, get_or-set_same}
use Rattle.std.proofs.Common.{get_or-set_other, eq-eqb, ne_eqb, ⊎_elim}
use Rattle.std.specs.Option.{option_map_or, IfSome}
use Rattle.std.specs.Prelude.{◌==◌, ◌≤◌, ◌⊎◌, Option}
use Rattle.std.specs.List.{filter, sum_by, AllClonesOf, range_with_len}
use Rattle.std.proofs.lemmas.Bool.{cases_eq}
use Rattle.std.proofs.lemmas.List.{get_or-map, length-map}
use Rattle.std.proofs.lemmas.List.Elements.{filter_more, All-from_recursion}
use Rattle.std.proofs.lemmas.List.FromFn.{fill_by_all, get_or-map-range_with_len}
use Rattle.std.proofs.lemmas.List.FromFn.{length-map-range_with_len}
use Rattle.std.proofs.lemmas.List.Sums.{sum_by-append}
use Rattle.cdf_types.specs.declared.report.Position.{Position}
use Rattle.cdf_types.specs.declared.report.SelectionVote.{SelectionVote}
use Rattle.cvr_facts.specs.Sums.{counts, votes_among, votes_of, names_place, sum_limit}
use Rattle.cvr_facts.proofs.Bounds.{sum_by-filter_next-lt}

-- ---- one more of a sort

sum_by-cond : {X : Type 0} (f : X → ℕ) (x : X) (b : Bool)
    → sum_by f (cond b (x ∷ []) []) ≡ cond b (f x) 0
sum_by-cond f x true = zero-add (f x)
sum_by-cond f x false = refl

pub sum_by-filter_more : {X : Type 0} (f : X → ℕ) (p : X → Bool) (xs : List X) (i : ℕ) (x : X)
    → i < length xs → x ≡ get_or xs i x
    → sum_by f (filter p (take (i + 1) xs)) ≡ sum_by f (filter p (take i xs)) + cond (p x) (f x) 0
sum_by-filter_more f p xs i x less is =
    ap (sum_by f) (filter_more p xs i x less)
    ∙ (sum_by-append f (filter p (take i xs)) _
    ∙ ap (λ n. sum_by f (filter p (take i xs)) + n) (rw (← is) (sum_by-cond f x (p x))))

-- an item of what a list gives
module _ {A B : Type 0} (stated : A → B) (xs : List A) (i : ℕ) (x : A) (less : i < length xs)
    (is : x ≡ get_or xs i x) where
  pub told_less : i < length (map stated xs)
  told_less = rw (length-map xs stated) less

  pub told_is : stated x ≡ get_or (map stated xs) i (stated x)
  told_is = sym (get_or-map stated xs i x (stated x) less ∙ ap stated (sym is))

  -- beside an equal list
  pub number_with : (ys : List B) → map stated xs ≡ ys
      → (i < length ys) × (stated x ≡ get_or ys i (stated x))
  number_with ys same = subst (λ zs. (i < length zs) × (stated x ≡ get_or zs i (stated x))) same
      (told_less, told_is)

-- ---- one more position

cond-le : (b : Bool) (n : ℕ) → cond b n 0 ≤ n
cond-le true n = omega arith
cond-le false n = omega arith

module _ (ps : List Position) (i : ℕ) (p : Position) (less : i < length ps) (is : p ≡ get_or ps i p)
    (sort : Position → Bool) (so_far next : ℕ) (was : so_far ≡ votes_among sort (take i ps))
    (at : next ≡ cond (sort p) p.votes 0) where
  pub among_next-lt : sum_by (λ q. q.votes) ps < sum_limit → so_far + next < sum_limit
  among_next-lt whole =
      omega (
        arith,
        sum_by-filter_next-lt (λ q. q.votes) sort ps i p sum_limit less is whole,
        cond-le (sort p) p.votes,
        was,
        at,
      )

  pub among_more : so_far + next ≡ votes_among sort (take (i + 1) ps)
  among_more = ap (λ n. n + next) was ∙ ap (λ n. votes_among sort (take i ps) + n) at
      ∙ sym (sum_by-filter_more (λ q. q.votes) sort ps i p less is)

-- ---- one more selection

-- the votes that count of those that name each of n places
abbrev pub votes_by_place : ℕ → List SelectionVote → List ℕ
votes_by_place n xs =
    map (λ place. sum_by (votes_of counts) (filter (names_place place) xs)) (range_with_len 0 n)

-- with more for this place, or for none
abbrev pub votes_with : List ℕ → Option ℕ → ℕ → List ℕ
votes_with votes place more =
    option_map_or (λ p. set votes p (get_or votes p 0 + more)) place votes

votes_with_at : (votes : List ℕ) (place : Option ℕ) (more k : ℕ)
    → IfSome place (λ p. p < length votes)
    → get_or (votes_with votes place more) k 0
    ≡ get_or votes k 0 + cond (option_map_or (λ p. p == k) place false) more 0
votes_with_at votes None more k here = sym (add-zero _)
votes_with_at votes (Some p) more k here = ⊎_elim
    (λ e. grind (arith, e, get_or-set_same, eq-eqb))
    (λ ne. grind (arith, ne, get_or-set_other, ne_eqb))
    (cases_eq p k)

length-votes_with : (votes : List ℕ) (place : Option ℕ) (more : ℕ)
    → length (votes_with votes place more) ≡ length votes
length-votes_with votes None more = refl
length-votes_with votes (Some p) more = length-set votes p _

pub votes_more : (n : ℕ) (xs : List SelectionVote) (i : ℕ) (x : SelectionVote) → i < length xs
    → x ≡ get_or xs i x → IfSome x.selection (λ p. p < n)
    → votes_with (votes_by_place n (take i xs)) x.selection (votes_of counts x)
    ≡ votes_by_place n (take (i + 1) xs)
votes_more n xs i x less is here =
    let votes = votes_by_place n (take i xs) in
    let for_place = λ (j place : ℕ).
    sum_by (votes_of counts) (filter (names_place place) (take j xs)) in
    let long : length votes ≡ n = length-map-range_with_len (for_place i) 0 n in
    let within : IfSome x.selection (λ p. p < length votes) =
    subst (λ m. IfSome x.selection (λ p. p < m)) (sym long) here in
    fill_by_all (for_place (i + 1)) _ n 0 (length-votes_with votes x.selection _ ∙ long)
    (λ k k_less. votes_with_at votes x.selection (votes_of counts x) k within
    ∙ (ap (λ m. m + cond (names_place k x) (votes_of counts x) 0)
    (get_or-map-range_with_len (for_place i) 0 n k k 0 k_less (omega arith))
    ∙ sym (sum_by-filter_more (votes_of counts) (names_place k) xs i x less is)))

-- where none is seen, each number is 0 or a copy of it
pub no_votes : (copies : ℕ → ℕ → Type 0) → ((n : ℕ) → copies 0 n → n ≡ 0) → (votes : List ℕ)
    → AllClonesOf copies 0 votes → votes ≡ votes_by_place (length votes) []
no_votes copies same votes h = fill_by_all (λ place. 0) votes (length votes) 0 refl
    (λ place less. ⊎_elim (λ e. e) (same _)
    (All-from_recursion (λ n. (n ≡ 0) ⊎ copies 0 n) votes h place 0 less))
