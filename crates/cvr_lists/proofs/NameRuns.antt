-- In a list in strict order the runs are its names, each with the number of its facts.
use Rattle.std.proofs.Common.{◌≡◌, ℕ, suc, ◌+◌, ◌≤◌, List, [], ◌∷◌, length, map, drop, cond}
use Rattle.std.proofs.Common.{Contains, inl, inr, refl, sym, ap, ◌∙◌, subst, arith, Less}
use Rattle.std.proofs.Common.{true≢false}
use Rattle.std.specs.Prelude.{◌⊎◌, Bool, true, false}
use Rattle.std.specs.List.{AllByRecursion, filter, prefix_len}
use Rattle.std.specs.List.Sorted.{IsStrictlySortedBy}
use Rattle.std.proofs.lemmas.Bool.{cond_both, false_from_ne_true}
use Rattle.std.proofs.lemmas.Map.Keys.{sorted_head, sorted_tail}
use Rattle.cvr_facts.proofs.Lemmas.{none_listed, at_head, at_tail, head_or_tail, from_map}
use Rattle.cvr_office.specs.declared.any_fact.AnyFact.{AnyFact}
use Rattle.cvr_office.specs.declared.conflict.Conflict.{Conflict}
use Rattle.cvr_office.specs.declared.conflict.ConflictName.{ConflictName}
use Rattle.cvr_office.specs.Names.{conflict_cmp}
use Rattle.cvr_office.specs.Place.{fact_of, any_cmp}
use Rattle.cvr_lists.specs.AnyNames.{any_name, has_name}
use Rattle.cvr_lists.specs.NameRuns.{runs_from, counted_runs}
use Rattle.cvr_office.proofs.Laws.{conflict_total}
use Rattle.cvr_office.proofs.Lemmas.{name_is}
use Rattle.cvr_office.proofs.Lemmas.{not_below, has_own_name, Reaches, names_reach}

-- ---- runs

-- ---- one run after the other

-- one step of a run, where the answers for the rest are as they are to be
run_step : (b : Bool) (n : ConflictName) (k : ℕ) (x : AnyFact) (xs : List AnyFact)
    → runs_from n (suc k) xs ≡ record { name = n; bodies = suc k + prefix_len (has_name n) xs }
    ∷ counted_runs (drop (prefix_len (has_name n) xs) xs)
    → cond b (runs_from n (suc k) xs) (record { name = n; bodies = k }
    ∷ runs_from (any_name x) 1 xs)
    ≡ record { name = n; bodies = k + cond b (1 + prefix_len (has_name n) xs) 0 }
    ∷ counted_runs (drop (cond b (1 + prefix_len (has_name n) xs) 0) (x ∷ xs))
run_step true n k x xs rest =
    let more : suc k + prefix_len (has_name n) xs ≡ k + (1 + prefix_len (has_name n) xs) =
    omega arith in
    let next : suc (prefix_len (has_name n) xs) ≡ 1 + prefix_len (has_name n) xs = omega arith in
    rest ∙ (λ i. record { name = n; bodies = more i } ∷ counted_runs (drop (next i) (x ∷ xs)))
run_step false n k x xs rest = let same : k ≡ k + 0 = omega arith in
    λ i. record { name = n; bodies = same i } ∷ runs_from (any_name x) 1 xs

runs_from-is : (n : ConflictName) (k : ℕ) (xs : List AnyFact)
    → runs_from n k xs ≡ record { name = n; bodies = k + prefix_len (has_name n) xs }
    ∷ counted_runs (drop (prefix_len (has_name n) xs) xs)
runs_from-is n k [] =
    let same : k ≡ k + 0 = omega arith in λ i. record { name = n; bodies = same i } ∷ []
runs_from-is n k (x ∷ xs) = run_step (has_name n x) n k x xs (runs_from-is n (suc k) xs)

-- the first run, and those of the rest
pub counted_runs-is : (x : AnyFact) (xs : List AnyFact)
    → counted_runs (x ∷ xs) ≡ record {
      name = any_name x;
      bodies = prefix_len (has_name (any_name x)) (x ∷ xs);
    }
    ∷ counted_runs (drop (prefix_len (has_name (any_name x)) (x ∷ xs)) (x ∷ xs))
counted_runs-is x xs =
    let next : suc (prefix_len (has_name (any_name x)) xs)
    ≡ 1 + prefix_len (has_name (any_name x)) xs = omega arith in
    runs_from-is (any_name x) 1 xs
    ∙ ((λ i. record { name = any_name x; bodies = 1 + prefix_len (has_name (any_name x)) xs }
    ∷ counted_runs (drop (next i) (x ∷ xs)))
    ∙ ap (λ b. record {
      name = any_name x;
      bodies = cond b (1 + prefix_len (has_name (any_name x)) xs) 0;
    }
    ∷ counted_runs (drop (cond b (1 + prefix_len (has_name (any_name x)) xs) 0) (x ∷ xs)))
    (sym (has_own_name (fact_of x))))

-- a run isn't empty
pub prefix_len-some : (x : AnyFact) (xs : List AnyFact)
    → 1 ≤ prefix_len (has_name (any_name x)) (x ∷ xs)
prefix_len-some x xs = subst (λ b. 1 ≤ cond b (1 + prefix_len (has_name (any_name x)) xs) 0)
    (sym (has_own_name (fact_of x))) (omega arith)

-- ---- how many facts have a name

abbrev pub count : ConflictName → List AnyFact → ℕ
count n xs = length (filter (has_name n) xs)

count-own : (n : ConflictName) (x : AnyFact) (xs : List AnyFact) → has_name n x ≡ true
    → count n (x ∷ xs) ≡ suc (count n xs)
count-own n x xs h =
    ap (λ b. length (cond b (x ∷ filter (has_name n) xs) (filter (has_name n) xs))) h

count-other : (n : ConflictName) (x : AnyFact) (xs : List AnyFact) → has_name n x ≡ false
    → count n (x ∷ xs) ≡ count n xs
count-other n x xs h =
    ap (λ b. length (cond b (x ∷ filter (has_name n) xs) (filter (has_name n) xs))) h

-- a fact has no name above its own, and none below
not_had : (n : ConflictName) (x : AnyFact) → conflict_cmp (any_name x) n ≡ Less
    → has_name n x ≡ false
not_had n x less = false_from_ne_true (has_name n x)
    (λ h. not_below (any_name x) n less (sym (name_is n (fact_of x) h)))

not_yet : (n : ConflictName) (x : AnyFact) → conflict_cmp n (any_name x) ≡ Less
    → has_name n x ≡ false
not_yet n x less =
    false_from_ne_true (has_name n x) (λ h. not_below n (any_name x) less (name_is n (fact_of x) h))

abbrev AllReached : ConflictName → List AnyFact → Type 0
AllReached n xs = (y : AnyFact) → Contains xs y → Reaches n (any_name y)

reached : (x : AnyFact) (xs : List AnyFact) → AllByRecursion (λ y. any_cmp x y ≡ Less) xs
    → AllReached (any_name x) xs
reached x [] h y at = absurd (none_listed y at)
reached x (z ∷ xs) h y at = elim (head_or_tail z y xs at) [
  | inl is ↦ subst (λ w. Reaches (any_name x) (any_name w)) is
      (names_reach (fact_of x) (fact_of z) h.0)
  | inr later ↦ reached x xs h.1 y later
]

-- a name below all of a list has no fact there
count-none : (n : ConflictName) (xs : List AnyFact)
    → ((y : AnyFact) → Contains xs y → conflict_cmp n (any_name y) ≡ Less) → count n xs ≡ 0
count-none n [] h = refl
count-none n (x ∷ xs) h = count-other n x xs (not_yet n x (h x (at_head x xs)))
    ∙ count-none n xs (λ y at. h y (at_tail x y xs at))

-- ---- names and numbers of the runs

-- the first run goes on, a later one has all facts of its name
abbrev IsCounted : ConflictName → ℕ → List AnyFact → Conflict → Type 0
IsCounted n k xs c = ((c.name ≡ n) × (c.bodies ≡ k + count n xs))
    ⊎ ((conflict_cmp n c.name ≡ Less) × (c.bodies ≡ count c.name xs))

-- after a fact, its name is counted once more
counted_first : (x : AnyFact) (xs : List AnyFact) (c : Conflict) → IsCounted (any_name x) 1 xs c
    → c.bodies ≡ count c.name (x ∷ xs)
counted_first x xs c (inl first) =
    let own : count (any_name x) (x ∷ xs) ≡ 1 + count (any_name x) xs =
    omega (arith, count-own (any_name x) x xs (has_own_name (fact_of x))) in
    first.1 ∙ (sym own ∙ ap (λ m. count m (x ∷ xs)) (sym first.0))
counted_first x xs c (inr later) =
    later.1 ∙ sym (count-other c.name x xs (not_had c.name x later.0))

module _ (n : ConflictName) (x : AnyFact) (xs : List AnyFact)
    (rises : IsStrictlySortedBy any_cmp (x ∷ xs)) (low : AllReached n (x ∷ xs)) where
  tail : IsStrictlySortedBy any_cmp xs
  tail = sorted_tail any_cmp x xs rises

  low_tail : AllReached n xs
  low_tail y at = low y (at_tail x y xs at)

  from_x : AllReached (any_name x) xs
  from_x = reached x xs (sorted_head any_cmp x xs rises)

  above : has_name n x ≡ false → conflict_cmp n (any_name x) ≡ Less
  above h =
      elim (low x (at_head x xs)) [
        | inl is ↦ absurd (true≢false (sym
            (subst (λ m. has_name m x ≡ true) (sym is) (has_own_name (fact_of x))) ∙ h))
        | inr less ↦ less
      ]

  all_above : has_name n x ≡ false → (y : AnyFact) → Contains xs y
      → conflict_cmp n (any_name y) ≡ Less
  all_above h y at =
      elim (from_x y at) [
        | inl is ↦ subst (λ m. conflict_cmp n m ≡ Less) is (above h)
        | inr less ↦ conflict_total.trans n (any_name x) (any_name y) (above h) less
      ]

  runs_above : has_name n x ≡ false → (c : Conflict) → IsCounted (any_name x) 1 xs c
      → conflict_cmp n c.name ≡ Less
  runs_above h c (inl first) = subst (λ m. conflict_cmp n m ≡ Less) (sym first.0) (above h)
  runs_above h c (inr later) = conflict_total.trans n (any_name x) c.name (above h) later.0

  goes_on : (k : ℕ) → has_name n x ≡ true → (c : Conflict) → IsCounted n (suc k) xs c
      → IsCounted n k (x ∷ xs) c
  goes_on k h c (inl first) = inl (first.0, omega (arith, first.1, count-own n x xs h))
  goes_on k h c (inr later) =
      inr (
        later.0,
        later.1 ∙ sym (count-other c.name x xs
            (not_had c.name x (subst (λ m. conflict_cmp m c.name ≡ Less) (name_is n (fact_of x) h)
            later.0))),
      )

  ends : (k : ℕ) → has_name n x ≡ false
      → ((c : Conflict) → Contains (runs_from (any_name x) 1 xs) c → IsCounted (any_name x) 1 xs c)
      → (c : Conflict) → Contains (record { name = n; bodies = k } ∷ runs_from (any_name x) 1 xs) c
      → IsCounted n k (x ∷ xs) c
  ends k h rest c at =
      elim (head_or_tail (record { name = n; bodies = k }) c (runs_from (any_name x) 1 xs) at) [
        | inl is ↦ inl (
          ap (λ d. d.name) (sym is),
          ap (λ d. d.bodies) (sym is)
              ∙ omega (arith, count-other n x xs h, count-none n xs (all_above h)),
        )
        | inr later ↦ inr (runs_above h c (rest c later), counted_first x xs c (rest c later))
      ]

all_counted : (n : ConflictName) (k : ℕ) (xs : List AnyFact) → IsStrictlySortedBy any_cmp xs
    → AllReached n xs
    → (c : Conflict) → Contains (runs_from n k xs) c → IsCounted n k xs c
all_counted n k [] rises low c at =
    elim (head_or_tail (record { name = n; bodies = k }) c [] at) [
      | inl is ↦ inl (ap (λ d. d.name) (sym is), ap (λ d. d.bodies) (sym is) ∙ omega arith)
      | inr none ↦ absurd (none_listed c none)
    ]
all_counted n k (x ∷ xs) rises low c at =
    cond_both (has_name n x) (runs_from n (suc k) xs)
    (record { name = n; bodies = k } ∷ runs_from (any_name x) 1 xs)
    (λ cs. Contains cs c → IsCounted n k (x ∷ xs) c)
    (λ h here. goes_on n x xs rises low k h c
    (all_counted n (suc k) xs (tail n x xs rises low) (low_tail n x xs rises low) c here))
    (λ h here. ends n x xs rises low k h
    (all_counted (any_name x) 1 xs (tail n x xs rises low) (from_x n x xs rises low)) c here)
    at

-- each run has all facts of its name
pub runs_counted : (xs : List AnyFact) → IsStrictlySortedBy any_cmp xs → (c : Conflict)
    → Contains (counted_runs xs) c → c.bodies ≡ count c.name xs
runs_counted [] rises c at = absurd (none_listed c at)
runs_counted (x ∷ xs) rises c at =
    counted_first x xs c (all_counted (any_name x) 1 xs (sorted_tail any_cmp x xs rises)
    (reached x xs (sorted_head any_cmp x xs rises)) c at)

-- ---- the names

abbrev pub run_names : List Conflict → List ConflictName
run_names cs = map (λ c. c.name) cs

pub all_of : {X : Type 0} (T : X → Type 0) (xs : List X) → ((x : X) → Contains xs x → T x)
    → AllByRecursion T xs
all_of T [] h = tt
all_of T (x ∷ xs) h = (h x (at_head x xs), all_of T xs (λ y at. h y (at_tail x y xs at)))

names_above : (n : ConflictName) (x : AnyFact) (xs : List AnyFact)
    → IsStrictlySortedBy any_cmp (x ∷ xs) → AllReached n (x ∷ xs) → has_name n x ≡ false
    → (m : ConflictName) → Contains (run_names (runs_from (any_name x) 1 xs)) m
    → conflict_cmp n m ≡ Less
names_above n x xs rises low h m at =
    let found = from_map (λ c. c.name) m (runs_from (any_name x) 1 xs) at in
    subst (λ p. conflict_cmp n p ≡ Less) found.2
    (runs_above n x xs rises low h found.0
    (all_counted (any_name x) 1 xs (tail n x xs rises low) (from_x n x xs rises low) found.0
    found.1))

names_rise_from : (n : ConflictName) (k : ℕ) (xs : List AnyFact) → IsStrictlySortedBy any_cmp xs
    → AllReached n xs → IsStrictlySortedBy conflict_cmp (run_names (runs_from n k xs))
unfolding IsStrictlySortedBy
names_rise_from n k [] rises low = (tt, tt)
names_rise_from n k (x ∷ xs) rises low =
    cond_both (has_name n x) (runs_from n (suc k) xs)
    (record { name = n; bodies = k } ∷ runs_from (any_name x) 1 xs)
    (λ cs. IsStrictlySortedBy conflict_cmp (run_names cs))
    (λ h. names_rise_from n (suc k) xs (tail n x xs rises low) (low_tail n x xs rises low))
    (λ h. (
      all_of (λ m. conflict_cmp n m ≡ Less) (run_names (runs_from (any_name x) 1 xs))
          (names_above n x xs rises low h),
      names_rise_from (any_name x) 1 xs (tail n x xs rises low)
          (from_x n x xs rises low),
    ))

-- they rise
pub run_names-rise : (xs : List AnyFact) → IsStrictlySortedBy any_cmp xs
    → IsStrictlySortedBy conflict_cmp (run_names (counted_runs xs))
unfolding IsStrictlySortedBy
run_names-rise [] rises = tt
run_names-rise (x ∷ xs) rises = names_rise_from (any_name x) 1 xs (sorted_tail any_cmp x xs rises)
    (reached x xs (sorted_head any_cmp x xs rises))

in_run_names_from : (n : ConflictName) (k : ℕ) (xs : List AnyFact) (m : ConflictName)
    → (n ≡ m) ⊎ Contains (map any_name xs) m → Contains (run_names (runs_from n k xs)) m
in_run_names_from n k [] m (inl is) = subst (Contains (n ∷ [])) is (at_head n [])
in_run_names_from n k [] m (inr at) = absurd (none_listed m at)
in_run_names_from n k (x ∷ xs) m had =
    cond_both (has_name n x) (runs_from n (suc k) xs)
    (record { name = n; bodies = k } ∷ runs_from (any_name x) 1 xs)
    (λ cs. Contains (run_names cs) m)
    (λ h. in_run_names_from n (suc k) xs m (elim had [
      | inl is ↦ inl is
      | inr at ↦ elim (head_or_tail (any_name x) m (map any_name xs) at)
          [ inl is ↦ inl (name_is n (fact_of x) h ∙ is) | inr later ↦ inr later ]
    ]))
    (λ h. elim had [
      | inl is ↦ subst (Contains (n ∷ run_names (runs_from (any_name x) 1 xs))) is
          (at_head n (run_names (runs_from (any_name x) 1 xs)))
      | inr at ↦ at_tail n m (run_names (runs_from (any_name x) 1 xs))
          (in_run_names_from (any_name x) 1 xs m (head_or_tail (any_name x) m (map any_name xs) at))
    ])

-- they are those of the facts
pub in_run_names : (xs : List AnyFact) (m : ConflictName) → Contains (map any_name xs) m
    → Contains (run_names (counted_runs xs)) m
in_run_names [] m at = absurd (none_listed m at)
in_run_names (x ∷ xs) m at =
    in_run_names_from (any_name x) 1 xs m (head_or_tail (any_name x) m (map any_name xs) at)

there : (x : AnyFact) (xs : List AnyFact) (m : ConflictName)
    → (any_name x ≡ m) ⊎ Contains (map any_name xs) m → Contains (map any_name (x ∷ xs)) m
there x xs m (inl is) =
    subst (Contains (any_name x ∷ map any_name xs)) is (at_head (any_name x) (map any_name xs))
there x xs m (inr at) = at_tail (any_name x) m (map any_name xs) at

from_run_names_from : (n : ConflictName) (k : ℕ) (xs : List AnyFact) (m : ConflictName)
    → Contains (run_names (runs_from n k xs)) m → (n ≡ m) ⊎ Contains (map any_name xs) m
from_run_names_from n k [] m at =
    elim (head_or_tail n m [] at) [ inl is ↦ inl is | inr none ↦ absurd (none_listed m none) ]
from_run_names_from n k (x ∷ xs) m at =
    cond_both (has_name n x) (runs_from n (suc k) xs)
    (record { name = n; bodies = k } ∷ runs_from (any_name x) 1 xs)
    (λ cs. Contains (run_names cs) m → (n ≡ m) ⊎ Contains (map any_name (x ∷ xs)) m)
    (λ h here. elim (from_run_names_from n (suc k) xs m here)
    [ inl is ↦ inl is | inr later ↦ inr (at_tail (any_name x) m (map any_name xs) later) ])
    (λ h here. elim (head_or_tail n m (run_names (runs_from (any_name x) 1 xs)) here) [
      | inl is ↦ inl is
      | inr later ↦ inr
          (there x xs m (from_run_names_from (any_name x) 1 xs m later))
    ])
    at

pub from_run_names : (xs : List AnyFact) (m : ConflictName)
    → Contains (run_names (counted_runs xs)) m → Contains (map any_name xs) m
from_run_names [] m at = absurd (none_listed m at)
from_run_names (x ∷ xs) m at = there x xs m (from_run_names_from (any_name x) 1 xs m at)
