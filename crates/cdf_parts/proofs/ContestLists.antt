-- Contests beside the ids of their selections.
use Rattle.std.proofs.Common.{◌≡◌, ℕ, zero, suc, ◌+◌, ◌<◌, List, [], ◌∷◌, length, get_or, map, Bool}
use Rattle.std.proofs.Common.{true, false, cond, Option, Some, bytes_eq, refl, ap, arith}
use Rattle.std.specs.List.{position_from, zip}
use Rattle.serde_json.specs.Data.{Data}
use Rattle.cdf_parts.specs.Parts.{id_of, ids_at}
use Rattle.cdf_parts.specs.Places.{Contest, contest_of, contest_ids, selections_at}
use Rattle.std.specs.Prelude.{codes}

pub contest_ids-zip : (xs : List (List ℕ)) (ys : List (List (List ℕ))) → length xs ≡ length ys
    → contest_ids (zip xs ys) ≡ xs
contest_ids-zip [] ys e = refl
contest_ids-zip (x ∷ xs) [] e = absurd (omega arith)
contest_ids-zip (x ∷ xs) (y ∷ ys) e = ap (λ zs. x ∷ zs) (contest_ids-zip xs ys (omega arith))

pub length-zip : (xs : List (List ℕ)) (ys : List (List (List ℕ))) → length xs ≡ length ys
    → length (zip xs ys) ≡ length ys
length-zip [] ys e = e
length-zip (x ∷ xs) [] e = absurd (omega arith)
length-zip (x ∷ xs) (y ∷ ys) e = ap suc (length-zip xs ys (omega arith))

pub selections_at-zip : (xs : List (List ℕ)) (ys : List (List (List ℕ))) (i : ℕ) (d : List (List ℕ))
    → length xs ≡ length ys → i < length ys → selections_at (zip xs ys) i ≡ get_or ys i d
selections_at-zip [] ys i d e h = absurd (omega arith)
selections_at-zip (x ∷ xs) [] i d e h = absurd (omega arith)
selections_at-zip (x ∷ xs) (y ∷ ys) zero d e h = refl
selections_at-zip (x ∷ xs) (y ∷ ys) (suc i) d e h =
    selections_at-zip xs ys i d (omega arith) (omega arith)

pub zip-map : (ds : List Data) → zip (map id_of ds) (map (ids_at (codes "ContestSelection")) ds)
    ≡ map contest_of ds
zip-map [] = refl
zip-map (d ∷ ds) = ap (λ cs. contest_of d ∷ cs) (zip-map ds)

below_head : (t : Bool) (i p n : ℕ) (rest : Option ℕ) → (rest ≡ Some p → p < (i + 1) + n)
    → cond t (Some i) rest ≡ Some p → p < i + suc n
below_head true i p n rest later is = let same : i ≡ p = cc in omega arith
below_head false i p n rest later is = let h = later is in omega arith

pub place_below : (ids : List (List ℕ)) (s : List ℕ) (i p : ℕ)
    → position_from (bytes_eq s) i ids ≡ Some p → p < i + length ids
place_below [] s i p is = absurd (cc)
place_below (x ∷ ids) s i p is =
    below_head (bytes_eq s x) i p (length ids) _ (place_below ids s (i + 1) p) is

pub as_many_ids : (contests : List Contest) → length (contest_ids contests) ≡ length contests
as_many_ids [] = refl
as_many_ids (c ∷ cs) = ap suc (as_many_ids cs)
