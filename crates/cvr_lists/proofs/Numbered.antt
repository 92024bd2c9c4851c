-- Items by their number, from 1, counted from the end.
use Rattle.std.proofs.Common.{◌≡◌, ℕ, zero, suc, ◌-◌, ◌<◌, ◌≤◌, List, [], ◌∷◌, length, map, reverse}
use Rattle.std.proofs.Common.{get_or, Some, None, option_map, refl, sym, ap, ◌∙◌, arith}
use Rattle.std.specs.Prelude.{slice_get}
use Rattle.std.proofs.lemmas.List.{get_or-reverse, length-reverse, length-map}
use Rattle.std.proofs.lemmas.Option.{slice_get-get_or, slice_get_past, slice_get-map}
use Rattle.cvr_office.specs.Readers.{nth_from_one}

numbered_none : {K : Type 0} (xs : List K) → nth_from_one xs 0 ≡ None
numbered_none [] = refl
numbered_none (x ∷ xs) = refl

numbered_suc : {K : Type 0} (xs : List K) (k : ℕ) → nth_from_one xs (suc k) ≡ slice_get xs k
numbered_suc [] k = refl
numbered_suc (x ∷ xs) zero = refl
numbered_suc (x ∷ xs) (suc k) = numbered_suc xs k

pub numbered_past : {K : Type 0} (xs : List K) (k : ℕ) → length xs < k
    → nth_from_one (reverse xs) k ≡ None
numbered_past xs zero lt = absurd (omega arith)
numbered_past xs (suc k) lt = numbered_suc (reverse xs) k
    ∙ slice_get_past (reverse xs) k (omega (arith, lt, length-reverse xs))

get-reverse : {K : Type 0} (xs : List K) (k : ℕ) → k < length xs
    → slice_get (reverse xs) k ≡ slice_get xs (length xs - suc k)
get-reverse [] k lt = absurd (omega arith)
get-reverse (x ∷ xs) k lt =
    slice_get-get_or (reverse (x ∷ xs)) k x (omega (arith, lt, length-reverse (x ∷ xs)))
    ∙ (ap Some (get_or-reverse (x ∷ xs) k x lt ∙ ap (λ i. get_or (x ∷ xs) i x) (omega (arith, lt)))
    ∙ sym (slice_get-get_or (x ∷ xs) (length (x ∷ xs) - suc k) x (omega (arith, lt))))

pub nth_from_one-reverse : {K : Type 0} (xs : List K) (k : ℕ) → k ≤ length xs
    → nth_from_one (reverse xs) k ≡ slice_get xs (length xs - k)
nth_from_one-reverse xs zero le =
    numbered_none (reverse xs) ∙ sym (slice_get_past xs (length xs - 0) (omega arith))
nth_from_one-reverse xs (suc k) le = numbered_suc (reverse xs) k ∙ get-reverse xs k (omega arith)

-- ---- images of items

module _ {X K : Type 0} (f : X → K) (xs : List X) (ks : List K) (are : map f xs ≡ ks) (k : ℕ) where
  pub none_numbered : (k ≤ length xs → ⊥) → None ≡ nth_from_one (reverse ks) k
  none_numbered past =
      sym (numbered_past ks k (omega (arith, past, length-map xs f, ap length are)))

  pub one_numbered : (i : ℕ) → k ≤ length xs → i ≡ length xs - k
      → option_map f (slice_get xs i) ≡ nth_from_one (reverse ks) k
  one_numbered i le is =
      sym (slice_get-map f xs i)
      ∙ ((λ j. slice_get (are j) i)
      ∙ (ap (slice_get ks) (omega (arith, is, length-map xs f, ap length are))
      ∙ sym (nth_from_one-reverse ks k (omega (arith, le, length-map xs f, ap length are)))))
