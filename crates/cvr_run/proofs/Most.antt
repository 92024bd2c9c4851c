-- The greatest of some numbers.
use Rattle.std.proofs.Common.{◌≡◌, ℕ, List, [], ◌∷◌, map, max, unwrap_or, refl, sym, ◌∙◌, arith}
use Rattle.std.specs.List.{fold, reduce}
use Rattle.std.proofs.lemmas.Bool.Decides.{nat_tests}
use Rattle.cvr_office.specs.declared.conflict.Conflict.{Conflict}
use Rattle.cvr_office.specs.Names.{most}
use Rattle.cvr_run.specs.Currents.{volumes_of}

pub most-cons : (n : ℕ) (ns : List ℕ) → most (n ∷ ns) ≡ max n (most ns)
most-cons n ns = grind (arith, nat_tests)

fold-max : (n : ℕ) (ns : List ℕ) → fold max n ns ≡ max n (most ns)
fold-max n [] = omega arith
fold-max n (m ∷ ns) = omega (arith, fold-max (max n m) ns, most-cons m ns)

-- 1 where there is no conflict
pub reduce-max : (list : List Conflict)
    → unwrap_or (reduce max (map (λ c. c.bodies) list)) 1 ≡ volumes_of list
reduce-max [] = refl
reduce-max (c ∷ cs) =
    fold-max c.bodies (map (λ c. c.bodies) cs) ∙ sym (most-cons c.bodies (map (λ c. c.bodies) cs))
