-- A new office is the unit of joining among offices with the same starting facts.
use Rattle.std.proofs.Common.{◌≡◌, true, inl, inr, sym, ◌∙◌, subst}
use Rattle.std.specs.Cmp.{both_ways}
use Rattle.std.specs.FinSet.{union, contains, contains-union, same_set}
use Rattle.std.proofs.lemmas.Bool.{or_cases, or_left}
use Rattle.cvr_fact_types.specs.Facts.{Fact, Facts, fact_total, fact_exact}
use Rattle.cvr_facts.specs.Unions.{union_comm}
use Rattle.cvr_office.specs.CanHold.{starting_content}
use Rattle.cvr_office.specs.Alike.{NewOfficeLaw}

-- what is there already changes nothing
union-within : (s t : Facts) → ((f : Fact) → contains t f ≡ true → contains s f ≡ true)
    → union s t ≡ s
union-within s t there = same_set fact_total fact_exact _ _ (λ f. both_ways _ _
    (λ h. elim (or_cases (contains s f) (contains t f) (sym (contains-union fact_total s t f) ∙ h))
    [ inl here ↦ here | inr had ↦ there f had ])
    (λ h. contains-union fact_total s t f ∙ or_left _ (contains t f) h))

pub new_office : NewOfficeLaw
new_office f g s can_hold same =
    let joined = union-within s (starting_content f)
    (λ x h. can_hold.started x (subst (λ t. contains t x ≡ true) same h)) in
    record {
      joined = joined;
      joining = union_comm fact_total fact_exact (starting_content f) s
          ∙ joined;
    }
