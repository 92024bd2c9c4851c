-- Facts in order put among others in order. (This project's own.)
use Rattle.std.specs.Prelude.{List, [], ◌∷◌, ◌++◌, Bool, not}
use Rattle.std.specs.List.{filter}
use Rattle.std.specs.List.Sorted.{IsStrictlySortedBy}
use Rattle.std.specs.Ordering.{is_lt}
use Rattle.cvr_office.specs.declared.any_fact.AnyFact.{AnyFact}
use Rattle.cvr_office.specs.Place.{any_cmp}
use Rattle.cvr_office.specs.Plain.{IsPut}
use Rattle.cvr_cached.specs.Fresh.{AreApart}

-- whether the other fact stands before this one
abbrev pub is_before : AnyFact → AnyFact → Bool
is_before x y = is_lt (any_cmp y x)

-- those before the first of them, it, and the rest with the others
abbrev pub merged : List AnyFact → List AnyFact → List AnyFact
merged facts [] = facts
merged facts (x ∷ xs) = filter (is_before x) facts
    ++ x ∷ merged (filter (λ y. not (is_before x y)) facts) xs

-- facts in order, with others in order that aren't among them: the facts of both, in order
abbrev pub MergedLaw : Type 0
MergedLaw = (facts others : List AnyFact) → IsStrictlySortedBy any_cmp facts
    → IsStrictlySortedBy any_cmp others → AreApart facts others
    → IsPut facts others (merged facts others)
