-- The least office that holds the same, and the lines of offices.
use Rattle.std.proofs.Common.{◌≡◌, ℕ, zero, suc, ◌+◌, ◌-◌, ◌<◌, ◌≤◌, List, [], ◌∷◌, ◌++◌, length}
use Rattle.std.proofs.Common.{get_or, drop, Bool, true, false, not, cond, true≢false, refl, sym, ap}
use Rattle.std.proofs.Common.{◌∙◌, subst, arith}
use Rattle.std.specs.Prelude.{◌↔◌, IsTrue, replicate}
use Rattle.std.specs.List.{flat_map, range_with_len, position_or_len}
use Rattle.std.specs.Cmp.{both_ways}
use Rattle.std.specs.FinSet.{empty, contains, is_subset, is_subset-contains, contains-is_subset}
use Rattle.std.specs.FinSet.{same_set}
use Rattle.std.proofs.lemmas.Bool.{and_parts, and_from}
use Rattle.std.proofs.lemmas.List.{drop_all, drop_more, get_or-replicate, length-replicate}
use Rattle.std.proofs.lemmas.List.FromFn.{length-range_with_len, get_or-range_with_len}
use Rattle.cdf_definition.specs.Frame.{Frame, IsSame}
use Rattle.cvr_fact_types.specs.Facts.{Facts, fact_total, fact_exact}
use Rattle.cvr_office.specs.Outcomes.{no_frame}
use Rattle.cvr_run.specs.Drill.{are_same, office_line, AreOfOne}
use Rattle.cvr_run.specs.Laws.{LeastSameLaw}

-- ---- the same facts

pub same_itself : (s : Facts) → are_same s s ≡ true
same_itself s = and_from _ _ (contains-is_subset fact_total s s (λ q there. there))
    (contains-is_subset fact_total s s (λ q there. there))

pub same_exact : (s t : Facts) → are_same s t ≡ true → s ≡ t
same_exact s t is =
    let parts = and_parts (is_subset s t) (is_subset t s) is in
    same_set fact_total fact_exact s t (λ q.
    both_ways (contains s q) (contains t q) (is_subset-contains fact_total s t parts.0 q)
    (is_subset-contains fact_total t s parts.1 q))

-- what `same` answers of offices of one definition
pub same_is : (answer : Bool) (f g : Frame) (s t : Facts) → IsTrue answer ↔ (IsSame f g × (s ≡ t))
    → f ≡ g → answer ≡ are_same s t
same_is answer f g s t is_logged one =
    both_ways answer (are_same s t)
    (λ e. subst (λ x. are_same s x ≡ true) (is_logged.0 e).1 (same_itself s))
    (λ e. is_logged.1 (
      subst (IsSame f) one (record { elections = refl; units = refl; parties = refl }),
      same_exact s t e,
    ))

pub of_one : (definition : Frame) (n : ℕ) (frames : List Frame) → frames ≡ replicate n definition
    → AreOfOne frames
of_one definition n frames is =
    subst AreOfOne (sym is) (λ p o lp lo.
    get_or-replicate n p definition no_frame (omega (arith, lp, length-replicate n definition))
    ∙ sym (get_or-replicate n o definition no_frame
    (omega (arith, lo, length-replicate n definition))))

more_of : {X : Type 0} (n : ℕ) (x : X) → replicate (suc n) x ≡ replicate n x ++ x ∷ []
more_of zero x = refl
more_of (suc n) x = ap (λ xs. x ∷ xs) (more_of n x)

pub replicate_more : {X : Type 0} (n : ℕ) (x : X) → replicate (n + 1) x ≡ replicate n x ++ x ∷ []
replicate_more n x =
    let on : n + 1 ≡ suc n = omega arith in ap (λ k. replicate k x) on ∙ more_of n x

-- ---- the first that passes a test

module _ (test : Facts → Bool) (all : List Facts) (k : ℕ) (d : Facts) (lt : k < length all) where
  pub first_here : test (get_or all k d) ≡ true → position_or_len test (drop k all) ≡ 0
  first_here is = ap (position_or_len test) (drop_more all k d lt)
      ∙ ap (λ b. cond (not b) (1 + position_or_len test (drop (k + 1) all)) 0) is

  pub first_later : test (get_or all k d) ≡ false
      → position_or_len test (drop k all) ≡ 1 + position_or_len test (drop (k + 1) all)
  first_later is = ap (position_or_len test) (drop_more all k d lt)
      ∙ ap (λ b. cond (not b) (1 + position_or_len test (drop (k + 1) all)) 0) is

module _ (test : Facts → Bool) where
  pub at_most : (all : List Facts) (k : ℕ) (d : Facts) → k < length all
      → test (get_or all k d) ≡ true → position_or_len test all ≤ k
  at_most [] k d lt is = absurd (omega arith)
  at_most (s ∷ all) zero d lt is =
      subst (λ b. cond (not b) (1 + position_or_len test all) 0 ≤ 0) (sym is) (omega arith)
  at_most (s ∷ all) (suc k) d lt is =
      let rest = at_most all k d (omega (arith, lt)) is in
      elim (test s) as (λ b. cond (not b) (1 + position_or_len test all) 0 ≤ suc k)
      [ true ↦ omega arith | false ↦ omega (arith, rest) ]

  pub passes : (all : List Facts) (d : Facts) → position_or_len test all < length all
      → test (get_or all (position_or_len test all) d) ≡ true
  passes [] d lt = absurd (omega arith)
  passes (s ∷ all) d lt =
      let on : 1 + position_or_len test all ≡ suc (position_or_len test all) = omega arith in
      elim (test s) as (λ b. test s ≡ b
      → cond (not b) (1 + position_or_len test all) 0 < suc (length all)
      → test (get_or (s ∷ all) (cond (not b) (1 + position_or_len test all) 0) d) ≡ true) [
        | true ↦ λ e _. e
        | false ↦ λ _ below. ap (λ j. test (get_or (s ∷ all) j d)) on
            ∙ passes all d (omega (arith, below))
      ] refl lt

  pub before : (all : List Facts) (k : ℕ) (d : Facts) → k < position_or_len test all
      → test (get_or all k d) ≡ false
  before [] k d lt = absurd (omega arith)
  before (s ∷ all) zero d lt =
      elim (test s) as (λ b. test s ≡ b → 0 < cond (not b) (1 + position_or_len test all) 0
      → test s ≡ false) [
        | true ↦ λ _ below. absurd (omega (arith, below))
        | false ↦ λ e _. e
      ] refl lt
  before (s ∷ all) (suc k) d lt =
      elim (test s) as (λ b. suc k < cond (not b) (1 + position_or_len test all) 0
      → test (get_or all k d) ≡ false) [
        | true ↦ λ below. absurd (omega (arith, below))
        | false ↦ λ below. before all k d (omega (arith, below))
      ] lt

pub least_same_is : LeastSameLaw
least_same_is all o lt =
    let s = get_or all o empty in
    let test = are_same s in
    let place = position_or_len test all in
    let le : place ≤ o = at_most test all o empty lt (same_itself s) in
    record {
      at_most = omega (arith, le);
      same =
          ap (λ j. get_or all j empty) (let back : place + 1 - 1 ≡ place = omega arith in back)
          ∙ sym (same_exact s (get_or all place empty)
          (passes test all empty (omega (arith, le, lt))));
      least = λ k below is. true≢false (sym (ap test is ∙ same_itself s)
          ∙ before test all k empty (omega (arith, below)));
    }

-- ---- one more line

pub line_more : (all : List Facts) (n k : ℕ) → k < n
    → flat_map (office_line all) (drop k (range_with_len 0 n))
    ≡ office_line all k ++ flat_map (office_line all) (drop (k + 1) (range_with_len 0 n))
line_more all n k lt =
    ap (flat_map (office_line all)) (drop_more (range_with_len 0 n) k 0
    (omega (arith, lt, length-range_with_len 0 n)))
    ∙ ap (λ o. office_line all o ++ flat_map (office_line all) (drop (k + 1) (range_with_len 0 n)))
    (get_or-range_with_len 0 n k 0 lt ∙ omega arith)

-- and none after the last
pub lines_end : (all : List Facts) (n k : ℕ) → n ≤ k
    → flat_map (office_line all) (drop k (range_with_len 0 n)) ≡ []
lines_end all n k le = ap (flat_map (office_line all))
    (drop_all k (range_with_len 0 n) (omega (arith, le, length-range_with_len 0 n)))
