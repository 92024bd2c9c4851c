-- Parts under names of records, and what they hold together. (This project's own.)
use Rattle.std.specs.Prelude.{◌≡◌, List, [], ◌∷◌}
use Rattle.std.specs.List.Sorted.{IsStrictlySortedBy}
use Rattle.std.specs.Option.{option_map_or}
use Rattle.std.specs.Map.{keys_of, lookup}
use Rattle.std.specs.BTreeMap.{is_at}
use Rattle.cvr_fact_types.specs.declared.name.RecordName.{RecordName}
use Rattle.cvr_fact_types.specs.Facts.{name_cmp}

-- what the part of a name holds: nothing where there is none
abbrev pub part : {P M : Type 0} → (P → M) → M → List (RecordName × P) → RecordName → M
part held nothing parts k = option_map_or held (lookup (is_at (name_cmp k)) parts) nothing

-- what all parts hold, joined
abbrev pub whole_of : {P M : Type 0} → (P → M) → (M → M → M) → M → List (RecordName × P) → M
whole_of held join nothing [] = nothing
whole_of held join nothing (p ∷ ps) = join (held p.1) (whole_of held join nothing ps)

-- where the part of each name is the join of two others', the whole is the join of theirs
abbrev pub WholesLaw : {P M : Type 0} → (P → M) → (M → M → M) → M → Type 0
WholesLaw {P} held join nothing = (one other both : List (RecordName × P))
    → IsStrictlySortedBy name_cmp (keys_of one) → IsStrictlySortedBy name_cmp (keys_of other)
    → IsStrictlySortedBy name_cmp (keys_of both)
    → ((k : RecordName) → part held nothing both k
    ≡ join (part held nothing one k) (part held nothing other k))
    → whole_of held join nothing both ≡ join (whole_of held join nothing one)
    (whole_of held join nothing other)
