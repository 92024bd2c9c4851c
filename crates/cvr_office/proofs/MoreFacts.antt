-- A set and its growth by another are the union.
use Rattle.std.proofs.Common.{◌≤◌, subst, arith}
use Rattle.std.specs.FinSet.{len, union, items}
use Rattle.cvr_fact_types.specs.Facts.{fact_total, fact_exact}
use Rattle.cvr_facts.proofs.Laws.{contains_iff}
use Rattle.cvr_office.specs.Counting.{GrowthLaw}
use Rattle.cvr_office.proofs.Rising.{set_is, len-union}

pub growth_adds : GrowthLaw
growth_adds s t =
    let same = set_is fact_total fact_exact (items t) t (λ f. (contains_iff t f).1)
    (λ f. (contains_iff t f).0) in
    let le : len s ≤ len (union s t) =
    subst (λ u. len s ≤ len (union s u)) same (len-union fact_total fact_exact s (items t)) in
    omega (arith, le)
