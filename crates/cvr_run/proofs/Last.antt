-- The greatest number of bodies, among conflicts and among all names.
use Rattle.std.proofs.Common.{◌≡◌, ℕ, ◌≤◌, ◌<◌, List, [], ◌∷◌, Bool, true, false, map, max, cond}
use Rattle.std.proofs.Common.{refl, sym, ap, ◌∙◌, arith}
use Rattle.std.specs.Prelude.{nat_le}
use Rattle.std.specs.List.{filter}
use Rattle.std.proofs.lemmas.Bool.Decides.{nat_tests}
use Rattle.cvr_fact_types.specs.Facts.{Facts}
use Rattle.cvr_office.specs.declared.conflict.Conflict.{Conflict}
use Rattle.cvr_office.specs.Names.{most, names, conflict_of, conflicts}
use Rattle.cvr_office.proofs.Lemmas.{map-map}
use Rattle.cvr_report.specs.Page.{volumes}
use Rattle.cvr_run.specs.Currents.{volumes_of}
use Rattle.cvr_run.proofs.Most.{most-cons}

-- the greatest number among these, and at least 1
abbrev at_least : List Conflict → ℕ
at_least list = max 1 (most (map (λ c. c.bodies) list))

abbrev several : Conflict → Bool
several c = nat_le 2 c.bodies

two_or_more : (n : ℕ) → nat_le 2 n ≡ true → 2 ≤ n
two_or_more n is = grind (arith, nat_tests)

fewer : (n : ℕ) → nat_le 2 n ≡ false → n < 2
fewer n is = grind (arith, nat_tests)

-- ---- one more name

kept_at_least : (b : Bool) (c : Conflict) (some all : List Conflict) → several c ≡ b
    → at_least some ≡ at_least all → at_least (cond b (c ∷ some) some) ≡ at_least (c ∷ all)
kept_at_least true c some all is same = omega (
  arith,
  same,
  most-cons c.bodies (map (λ (c : Conflict). c.bodies) some),
  most-cons c.bodies
      (map (λ (c : Conflict). c.bodies) all),
)
kept_at_least false c some all is same = omega
    (arith, same, fewer c.bodies is, most-cons c.bodies (map (λ (c : Conflict). c.bodies) all))

kept_volumes : (b : Bool) (c : Conflict) (some : List Conflict) → several c ≡ b
    → volumes_of some ≡ at_least some → volumes_of (cond b (c ∷ some) some)
    ≡ at_least (cond b (c ∷ some) some)
kept_volumes true c some is same = omega
    (arith, two_or_more c.bodies is, most-cons c.bodies (map (λ (c : Conflict). c.bodies) some))
kept_volumes false c some is same = same

-- ---- all

at_least-filter : (list : List Conflict) → at_least (filter several list) ≡ at_least list
at_least-filter [] = refl
at_least-filter (c ∷ cs) =
    kept_at_least (several c) c (filter several cs) cs refl (at_least-filter cs)

volumes_of-filter : (list : List Conflict)
    → volumes_of (filter several list) ≡ at_least (filter several list)
volumes_of-filter [] = refl
volumes_of-filter (c ∷ cs) =
    kept_volumes (several c) c (filter several cs) refl (volumes_of-filter cs)

-- as many volumes as the greatest number of bodies under one name, and at least 1
pub volumes_of-conflicts : (facts : Facts) → volumes_of (conflicts facts) ≡ volumes facts
volumes_of-conflicts facts =
    let list = map (conflict_of facts) (names facts) in
    volumes_of-filter list
    ∙ (at_least-filter list ∙ ap (λ ns. max 1 (most ns))
    (sym (map-map (conflict_of facts) (λ (c : Conflict). c.bodies) (names facts))))
