-- The places of the files or steps that were refused, one after the other.
use Rattle.std.proofs.Common.{◌≡◌, ◌∙◌, ◌+◌, ◌<◌, ◌≤◌, ℕ, zero, suc, List, [], ◌∷◌, ◌++◌, length}
use Rattle.std.proofs.Common.{take, get_or, true, false, refl, sym, ap, arith, append-nil}
use Rattle.std.proofs.Common.{append_assoc}
use Rattle.std.specs.Prelude.{if◌then◌else◌}
use Rattle.std.proofs.lemmas.List.{length-take-le, take_more}
use Rattle.cvr_office.specs.declared.event.Outcome.{Outcome}
use Rattle.cvr_run.specs.Happened.{refused_places}
use Rattle.cvr_run.specs.Refusals.{is_refusal}

abbrev place_if : Outcome → ℕ → List ℕ
place_if outcome place = if is_refusal outcome then place ∷ [] else []

-- one more behind others
behind : (first : ℕ) (outcomes : List Outcome) (o : Outcome)
    → refused_places first (outcomes ++ o ∷ [])
    ≡ refused_places first outcomes ++ place_if o (first + length outcomes)
behind first [] o = append-nil (place_if o first)
    ∙ ap (place_if o) (let is : first ≡ first + 0 = omega arith in is)
behind first (x ∷ outcomes) o =
    ap (λ places. place_if x first ++ places) (behind (suc first) outcomes o
    ∙ ap (λ place. refused_places (suc first) outcomes ++ place_if o place)
    (let is : suc first + length outcomes ≡ first + suc (length outcomes) = omega arith in is))
    ∙ sym (append_assoc (place_if x first) (refused_places (suc first) outcomes)
    (place_if o (first + suc (length outcomes))))

more : (outcomes : List Outcome) (k : ℕ) (o : Outcome) → k < length outcomes
    → o ≡ get_or outcomes k o → refused_places 0 (take (k + 1) outcomes)
    ≡ refused_places 0 (take k outcomes) ++ place_if o k
more outcomes k o lt at =
    ap (refused_places 0) (take_more outcomes k o lt ∙ ap (λ x. take k outcomes ++ x ∷ []) (sym at))
    ∙ (behind 0 (take k outcomes) o
    ∙ ap (λ place. refused_places 0 (take k outcomes) ++ place_if o place)
    (let len = length-take-le k outcomes (omega (arith, lt)) in
    let is : 0 + length (take k outcomes) ≡ k = omega (arith, len) in is))

take_none : (n : ℕ) (place : ℕ) → take (suc n) (place ∷ []) ≡ place ∷ []
take_none zero place = refl
take_none (suc n) place = refl

take_pushed : (n : ℕ) (places : List ℕ) (place : ℕ) → length (take n places) < n
    → take n (places ++ place ∷ []) ≡ take n places ++ place ∷ []
take_pushed zero places place lt = absurd (omega (arith, lt))
take_pushed (suc n) [] place lt = take_none n place
take_pushed (suc n) (x ∷ places) place lt =
    ap (λ rest. x ∷ rest) (take_pushed n places place (omega (arith, lt)))

take_full : (n : ℕ) (places : List ℕ) (place : ℕ) → n ≤ length (take n places)
    → take n (places ++ place ∷ []) ≡ take n places
take_full zero places place full = refl
take_full (suc n) [] place full = absurd (omega (arith, full))
take_full (suc n) (x ∷ places) place full =
    ap (λ rest. x ∷ rest) (take_full n places place (omega (arith, full)))

module _ (outcomes : List Outcome) (k : ℕ) (o : Outcome) (lt : k < length outcomes)
    (at : o ≡ get_or outcomes k o) (places : List ℕ)
    (are : places ≡ take 10 (refused_places 0 (take k outcomes))) where
  -- it was refused, and is among the first ten
  pub place_pushed : is_refusal o ≡ true → length places < 10
      → places ++ k ∷ [] ≡ take 10 (refused_places 0 (take (k + 1) outcomes))
  place_pushed refused few =
      let before = refused_places 0 (take k outcomes) in
      ap (λ ps. ps ++ k ∷ []) are
      ∙ (sym (take_pushed 10 before k (omega (arith, few, ap length are)))
      ∙ ap (take 10) (sym (more outcomes k o lt at
      ∙ ap (λ b. before ++ (if b then k ∷ [] else [])) refused)))

  -- it was refused, and ten were before
  pub place_beyond : is_refusal o ≡ true → 10 ≤ length places
      → places ≡ take 10 (refused_places 0 (take (k + 1) outcomes))
  place_beyond refused full =
      let before = refused_places 0 (take k outcomes) in
      are
      ∙ (sym (take_full 10 before k (omega (arith, full, ap length are)))
      ∙ ap (take 10) (sym (more outcomes k o lt at
      ∙ ap (λ b. before ++ (if b then k ∷ [] else [])) refused)))

  -- it was not
  pub place_passed : is_refusal o ≡ false
      → places ≡ take 10 (refused_places 0 (take (k + 1) outcomes))
  place_passed accepted =
      let before = refused_places 0 (take k outcomes) in
      are
      ∙ ap (take 10) (sym (more outcomes k o lt at
      ∙ (ap (λ b. before ++ (if b then k ∷ [] else [])) accepted ∙ append-nil before)))
