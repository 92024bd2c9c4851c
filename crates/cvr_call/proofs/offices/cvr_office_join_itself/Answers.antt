use Rattle.std.proofs.Common.{◌≡◌, ◌∙◌, ◌-◌, Option, Some, ℕ, ap, arith, refl, sym}
use Rattle.std.specs.FinSet.{len}
use Rattle.cvr_fact_types.specs.Facts.{Facts, fact_exact, fact_total}
use Rattle.cvr_facts.specs.Unions.{union_same}
use Rattle.cvr_office.specs.Readers.{growth}
use Rattle.cvr_cached.specs.Held.{Holding}
use Rattle.cvr_call.specs.Handle.{Does}
use Rattle.cvr_call.specs.Offices.{Joined, done}
use Rattle.cvr_call.proofs.offices.cvr_office_join_itself.Goals as goal

-- facts are their union with themselves, which has none more
no_growth : (facts : Facts) → 0 ≡ growth facts facts
no_growth facts =
    let none : len facts - len facts ≡ 0 = omega arith in
    sym (ap (λ s. len s - len facts) (union_same fact_total fact_exact facts) ∙ none)

itself : (office : Holding) → Joined office 0 office office
itself office = record {
  content = sym (union_same fact_total fact_exact office.content.facts);
  same = record { elections = refl; units = refl; parties = refl };
  new_facts = no_growth office.content.facts;
}

does : (old new : Option Holding) (office : Holding) (status : ℕ) → old ≡ Some office
    → new ≡ Some office → status ≡ done
    → Does old new status (λ old new. (status ≡ done) × Joined old 0 old new)
does old new office status is_old is_new is_done =
    rw (is_old, is_new) (is_done, itself office)

pub returns-clause-joined : goal.returns-clause-joined
returns-clause-joined c = does _ _ c.in-Some.held.value c.code.result c.in-Some.ensures.taken
    c.put.ensures c.code.ensures
