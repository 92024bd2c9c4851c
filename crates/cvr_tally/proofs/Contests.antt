-- Contests by place.
use Rattle.std.proofs.Common.{◌≡◌, ℕ, zero, suc, ◌+◌, ◌<◌, List, [], ◌∷◌, ◌++◌, length, get_or}
use Rattle.std.proofs.Common.{take, map, refl, sym, ap, ◌∙◌, arith}
use Rattle.std.proofs.lemmas.List.{take_more}
use Rattle.cdf_parts.specs.Places.{Contest, contest_ids, selections_at}

-- the contest at a place is its id beside its selections
at_place : (cs : List Contest) (i : ℕ) (d : Contest) → i < length cs
    → get_or cs i d ≡ (get_or (contest_ids cs) i [], selections_at cs i)
at_place [] i d h = absurd (omega arith)
at_place (c ∷ cs) zero d h = refl
at_place (c ∷ cs) (suc i) d h = at_place cs i d (omega arith)

pub one_more : (cs : List Contest) (i : ℕ) (id : List ℕ) (selections : List (List ℕ))
    → i < length cs → id ≡ get_or (contest_ids cs) i [] → selections ≡ selections_at cs i
    → take i cs ++ (id, selections) ∷ [] ≡ take (i + 1) cs
one_more cs i id selections h a b =
    let here : (id, selections) ≡ get_or cs i ([], []) = (λ j. (a j, b j))
    ∙ sym (at_place cs i ([], []) h) in
    ap (λ c. take i cs ++ c ∷ []) here ∙ sym (take_more cs i ([], []) h)

-- the selections of what is seen as a contest
pub selections_at-map : {X : Type 0} (f : X → Contest) (xs : List X) (i : ℕ) (d : X) → i < length xs
    → selections_at (map f xs) i ≡ (f (get_or xs i d)).1
selections_at-map f [] i d h = absurd (omega arith)
selections_at-map f (x ∷ xs) zero d h = refl
selections_at-map f (x ∷ xs) (suc i) d h = selections_at-map f xs i d (omega arith)
