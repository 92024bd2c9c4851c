-- Facts that aren't among others. (This project's own.)
use Rattle.std.specs.Prelude.{◌≡◌, List, Bool, false, not}
use Rattle.std.specs.List.{filter, Contains}
use Rattle.std.specs.FinSet.{contains}
use Rattle.cvr_office.specs.declared.any_fact.AnyFact.{AnyFact}
use Rattle.cvr_office.specs.Place.{fact_of}
use Rattle.cvr_office.specs.Plain.{set_of}

-- whether a fact isn't among these
abbrev pub is_fresh : List AnyFact → AnyFact → Bool
is_fresh facts fact = not (contains (set_of facts) (fact_of fact))

-- those that aren't among the facts
abbrev pub fresh : List AnyFact → List AnyFact → List AnyFact
fresh facts more = filter (is_fresh facts) more

-- none of the others is among the facts
abbrev pub AreApart : List AnyFact → List AnyFact → Type 0
AreApart facts others = (fact : AnyFact) → Contains others fact
    → contains (set_of facts) (fact_of fact) ≡ false
